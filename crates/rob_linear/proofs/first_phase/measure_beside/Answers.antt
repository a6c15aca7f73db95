use Rattle.rob_linear.proofs.KeptOut.BesideLoops.{beside_within, beside_rank}
use Rattle.rob_linear.proofs.first_phase.measure_beside.Goals as goal

pub returns : goal.returns
returns c = record {
  within = beside_within;
  rises = beside_rank;
}
