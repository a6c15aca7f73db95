use Rattle.rob_linear.proofs.BasisPaths.LastBases.{never_at_zero, auxiliary_bounded}
use Rattle.rob_linear.proofs.BasisPaths.ProgramPaths.{step_stays_out}
use Rattle.rob_linear.proofs.phase.auxiliary_column_leaves.Goals as goal

pub returns : goal.returns
returns c = record {
  for_good = step_stays_out;
  positive = never_at_zero;
  bounded = auxiliary_bounded;
}
