use Rattle.rob_linear.proofs.BasisPaths.TwoPhases.{kept_turned, phase_change}
use Rattle.rob_linear.proofs.BasisPaths.Extensions.{auxiliary_rows_exist}
use Rattle.rob_linear.proofs.phase.change_of_phase.Goals as goal

pub returns : goal.returns
returns c = record {
  kept = kept_turned;
  rows = phase_change;
  back = auxiliary_rows_exist;
}
