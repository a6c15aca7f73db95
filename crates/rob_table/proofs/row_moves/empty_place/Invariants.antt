-- The rows before row i are 0 at the place, and all others are as they were.
use Rattle.std.specs.Prelude.{◌≡◌, ◌≢◌, ◌⊎◌, ℕ, ◌<◌, ◌≤◌, length, pos}
use Rattle.rob_table.specs.Tables.{row_at}
use Rattle.rob_table.proofs.row_moves.empty_place.Given as goal

abbrev pub invariant-loop-i : goal.invariant-loop-i
invariant-loop-i g l = record {
  zero : (j : ℕ) → j < l.i → row_at l.rows l.fn.width j l.fn.place ≡ pos 0;
  same : (j k : ℕ) → k < l.fn.width → (l.i ≤ j) ⊎ (k ≢ l.fn.place)
      → row_at l.rows l.fn.width j k ≡ row_at l.fn.rows l.fn.width j k;
  size : length l.rows ≡ length l.fn.rows;
}
