-- The rows before i are cleared, and the others are as they were.
use Rattle.std.specs.Prelude.{◌≡◌}
use Rattle.rob_linear.specs.Vectors.{at}
use Rattle.rob_number.specs.Counts.{CountsOnly}
use Rattle.rob_table.specs.Tables.{row_at, HasBounds, AreCleared}
use Rattle.rob_table.proofs.table.clear_rows.Given as goal

abbrev pub invariant-loop-i : goal.invariant-loop-i
invariant-loop-i g l = record {
  cleared : AreCleared l.i l.fn.pivot.width l.fn.pivot.row l.fn.pivot.place (at l.fn.pivot_row.entries)
      (row_at l.fn.rows l.fn.pivot.width) (row_at l.rows l.fn.pivot.width);
  bounded : HasBounds g.E.Entry.top l.fn.pivot.width l.rows l.bounds;
  same : l.pivot_row ≡ l.fn.pivot_row;
  counted : CountsOnly g.L.Ledger.ops g.L.Ledger.wides l.fn.ledger l.ledger;
}
