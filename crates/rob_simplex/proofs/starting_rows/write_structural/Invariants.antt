-- The entries before place k are written, and other rows are as they were.
use Rattle.std.specs.Prelude.{◌≡◌, ◌≢◌, ℕ, ◌<◌, length}
use Rattle.rob_linear.specs.Vectors.{at}
use Rattle.rob_table.specs.Tables.{row_at}
use Rattle.rob_simplex.proofs.starting_rows.write_structural.Given as goal

abbrev pub invariant-loop-k : goal.invariant-loop-k
invariant-loop-k g l = record {
  done : (j : ℕ) → j < l.k → row_at l.rows l.fn.width l.fn.i j ≡ at l.fn.numbers j;
  same : (j c : ℕ) → j ≢ l.fn.i → c < l.fn.width → row_at l.rows l.fn.width j c ≡ row_at l.fn.rows l.fn.width j c;
  size : length l.rows ≡ length l.fn.rows;
}
