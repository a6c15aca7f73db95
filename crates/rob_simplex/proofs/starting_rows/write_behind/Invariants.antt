-- The entries from the structural ones to place k are written, and all others are as they were.
use Rattle.std.specs.Prelude.{◌≡◌, ◌≢◌, ◌⊎◌, ℕ, ◌<◌, ◌≤◌, ◌+◌, length, pos, neg_ℤ}
use Rattle.rob_linear.specs.Vectors.{at}
use Rattle.rob_table.specs.Tables.{row_at}
use Rattle.rob_simplex.specs.Starts.{start_entry}
use Rattle.rob_simplex.proofs.starting_rows.write_behind.Given as goal

abbrev pub invariant-loop-k : goal.invariant-loop-k
invariant-loop-k g l = record {
  done : (j : ℕ) → length l.fn.numbers ≤ j → j < l.k
      → row_at l.rows (length l.fn.numbers + 4) l.fn.i j ≡ start_entry (length l.fn.numbers) (at l.fn.numbers)
      (neg_ℤ (pos 1)) l.fn.right j;
  same : (j c : ℕ) → c < length l.fn.numbers + 4 → (j ≢ l.fn.i) ⊎ (c < length l.fn.numbers)
      → row_at l.rows (length l.fn.numbers + 4) j c ≡ row_at l.fn.rows (length l.fn.numbers + 4) j c;
  size : length l.rows ≡ length l.fn.rows;
}
