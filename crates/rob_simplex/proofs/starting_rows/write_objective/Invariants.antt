-- The entries before place k are written, and other rows are as they were.
use Rattle.std.specs.Prelude.{◌≡◌, ◌≢◌, ℕ, ◌<◌, ◌+◌, length, pos, neg_ℤ}
use Rattle.rob_linear.specs.Vectors.{at}
use Rattle.rob_table.specs.Tables.{row_at}
use Rattle.rob_simplex.specs.Starts.{start_entry}
use Rattle.rob_simplex.proofs.starting_rows.write_objective.Given as goal

abbrev pub invariant-loop-k : goal.invariant-loop-k
invariant-loop-k g l = record {
  done : (j : ℕ) → j < l.k
      → row_at l.rows (length l.fn.cost + 4) l.fn.i j ≡ start_entry (length l.fn.cost) (λ k. neg_ℤ (at l.fn.cost k))
      (pos 0) (pos 0) j;
  same : (j c : ℕ) → j ≢ l.fn.i → c < length l.fn.cost + 4
      → row_at l.rows (length l.fn.cost + 4) j c ≡ row_at l.fn.rows (length l.fn.cost + 4) j c;
  size : length l.rows ≡ length l.fn.rows;
}
