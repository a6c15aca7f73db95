use Rattle.rob_linear.proofs.KeptOut.BesidePaths.{beside_ends, beside_weights}
use Rattle.rob_linear.proofs.first_phase.end_beside.Goals as goal

pub returns : goal.returns
returns c = record {
  ends = beside_ends;
  weights = beside_weights;
}
