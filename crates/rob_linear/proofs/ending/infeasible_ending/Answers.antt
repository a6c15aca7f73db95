use Rattle.rob_linear.proofs.Meaning.Optimality.{farkas}
use Rattle.rob_linear.proofs.Meaning.Truths.{infeasible}
use Rattle.rob_linear.proofs.BasisPaths.Auxiliary.{farkas_primitive}
use Rattle.rob_linear.proofs.Meaning.Blocks.{one_block}
use Rattle.rob_linear.proofs.ending.infeasible_ending.Goals as goal

pub returns : goal.returns
returns c = record {
  weights = λ P own rows b e. infeasible P own rows b e.no_improving e.below;
  none = farkas;
  primitive = farkas_primitive;
  one_block = one_block;
}
