-- The row's entries before place k are 0, and other rows are as they were.
use Rattle.std.specs.Prelude.{◌≡◌, ◌≢◌, ℕ, ◌<◌, length, pos}
use Rattle.rob_table.specs.Tables.{row_at}
use Rattle.rob_table.proofs.row_moves.empty_row.Given as goal

abbrev pub invariant-loop-k : goal.invariant-loop-k
invariant-loop-k g l = record {
  zero : (j : ℕ) → j < l.k → row_at l.rows l.fn.width l.fn.i j ≡ pos 0;
  same : (j c : ℕ) → j ≢ l.fn.i → c < l.fn.width → row_at l.rows l.fn.width j c ≡ row_at l.fn.rows l.fn.width j c;
  size : length l.rows ≡ length l.fn.rows;
}
