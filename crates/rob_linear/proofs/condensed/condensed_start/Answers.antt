use Rattle.rob_linear.proofs.RowForms.CondensedSigns.{start_placed, start_entries}
use Rattle.rob_linear.proofs.condensed.condensed_start.Goals as goal

pub returns : goal.returns
returns c = record {
  placed = start_placed;
  entries = start_entries;
}
