use Rattle.rob_linear.proofs.Bases.Solutions.{start_is_basis}
use Rattle.rob_linear.proofs.BasisPaths.Starts.{system_tagged, auxiliary_tagged}
use Rattle.rob_linear.proofs.BasisPaths.TwoPhases.{kept_tagged}
use Rattle.rob_linear.proofs.basis.starting_rows.Goals as goal

pub returns : goal.returns
returns c = record {
  basis = start_is_basis;
  program = system_tagged;
  auxiliary = auxiliary_tagged;
  kept = kept_tagged;
}
