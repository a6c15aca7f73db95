use Rattle.rob_linear.proofs.KeptOut.BesideLoops.{beside_needs, beside_parallel}
use Rattle.rob_linear.proofs.KeptOut.BesideBack.{begun_stands, begun_exact, begun_wide, begun_cost_wide}
use Rattle.rob_linear.proofs.first_phase.back_from_beside.Goals as goal

pub returns : goal.returns
returns c = record {
  rows = λ P basis q f col rows begun new kept s r b. begun_stands P basis q f col rows begun s b new kept r;
  exact = λ P basis q f col rows begun new kept s r b. begun_exact P basis q f col rows begun s b new kept r;
  wide = λ limit P basis q f col rows begun i new s b. begun_wide P basis q f col rows begun s b limit i new;
  wide_cost = λ limit P basis q f col rows begun new s b. begun_cost_wide P basis q f col rows begun s b limit new;
  needs = beside_needs;
  parallel = beside_parallel;
}
