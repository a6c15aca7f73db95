use Rattle.rob_bounds.proofs.StartSizes.{system_sized, auxiliary_sized, kept_sized}
use Rattle.rob_bounds.proofs.narrow.starting_rows.Goals as goal

pub returns : goal.returns
returns c = record {
  program = system_sized;
  auxiliary = auxiliary_sized;
  kept = kept_sized;
}
