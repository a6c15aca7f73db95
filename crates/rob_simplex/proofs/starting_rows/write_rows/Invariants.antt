-- The rows before row i are written.
use Rattle.std.specs.Prelude.{◌≡◌, ℕ, [], ◌<◌, ◌+◌, pos, neg_ℤ, slice_index_or, length}
use Rattle.rob_linear.specs.Vectors.{at}
use Rattle.rob_table.specs.Tables.{row_at, HasBounds}
use Rattle.rob_simplex.specs.Starts.{start_entry}
use Rattle.rob_simplex.proofs.starting_rows.write_rows.Given as goal

abbrev pub invariant-loop-i : goal.invariant-loop-i
invariant-loop-i g l = record {
  rows : (j k : ℕ) → j < l.i → k < length l.fn.numbers + 4 → row_at l.rows (length l.fn.numbers + 4) j k
      ≡ start_entry (length l.fn.numbers) (at (slice_index_or (g.R.Rows.lp l.fn.source).a j [])) (neg_ℤ (pos 1))
      (at (g.R.Rows.lp l.fn.source).b j) k;
  bounded : HasBounds g.E.Entry.top (length l.fn.numbers + 4) l.rows l.bounds;
}
