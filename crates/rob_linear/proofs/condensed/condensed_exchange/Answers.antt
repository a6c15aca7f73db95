use Rattle.rob_linear.proofs.RowForms.CondensedRows.{placed_swapped, swapped_entry}
use Rattle.rob_linear.proofs.condensed.condensed_exchange.Goals as goal

pub returns : goal.returns
returns c = record {
  placed = placed_swapped;
  entries = λ m w n q p at near basis at' basis' table table' own own' i ql pl h free moved columns.
      swapped_entry m w n q p at near basis at' basis' ql pl h free moved columns table table' own own' i;
}
