use Rattle.rob_linear.proofs.RowForms.MultiplePhases.{kept_multiple, change_multiple, ends_multiple, weights_multiple}
use Rattle.rob_linear.proofs.first_phase.explicit_up_to_factors.Goals as goal

pub returns : goal.returns
returns c = record {
  kept = kept_multiple;
  change = change_multiple;
  ends = ends_multiple;
  weights = weights_multiple;
}
