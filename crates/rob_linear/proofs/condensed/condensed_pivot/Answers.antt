use Rattle.rob_linear.proofs.RowForms.CondensedRows.{placed_again, turned_entry, cleared_condensed}
use Rattle.rob_linear.proofs.condensed.condensed_pivot.Goals as goal

pub returns : goal.returns
returns c = record {
  placed = placed_again;
  row = λ m w n r e at near basis at' near' basis' table table' own own' h x.
      turned_entry m w n r e at near basis at' near' basis' h x table table' own own';
  others = λ m w n r e at near basis at' near' basis' table table' own own' i h x.
      cleared_condensed m w n r e at near basis at' near' basis' h x table table' own own' i;
}
