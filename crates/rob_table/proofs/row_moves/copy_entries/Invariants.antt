-- The entries before place k are copied, and the others are as they were.
use Rattle.std.specs.Prelude.{◌≡◌, ◌≢◌, ◌⊎◌, ℕ, ◌<◌, ◌≤◌, length}
use Rattle.rob_table.specs.Tables.{row_at}
use Rattle.rob_table.proofs.row_moves.copy_entries.Given as goal

abbrev pub invariant-loop-k : goal.invariant-loop-k
invariant-loop-k g l = record {
  done : (j : ℕ) → j < l.k → j < l.fn.width
      → row_at l.rows l.fn.width l.fn.to j ≡ row_at l.fn.rows l.fn.width l.fn.from j;
  same : (i j : ℕ) → (i ≢ l.fn.to) ⊎ (l.k ≤ j) → j < l.fn.width
      → row_at l.rows l.fn.width i j ≡ row_at l.fn.rows l.fn.width i j;
  size : length l.rows ≡ length l.fn.rows;
}
