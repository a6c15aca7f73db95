-- The rows have exchanged their entries before place k.
use Rattle.std.specs.Prelude.{◌≡◌, ℕ, ◌<◌, ◌≤◌, length}
use Rattle.rob_linear.specs.Beside.{exchanged}
use Rattle.rob_table.specs.Tables.{row_at}
use Rattle.rob_table.proofs.row_moves.exchange_entries.Given as goal

abbrev pub invariant-loop-k : goal.invariant-loop-k
invariant-loop-k g l = record {
  done : (i j : ℕ) → j < l.k → j < l.fn.width
      → row_at l.rows l.fn.width i j ≡ row_at l.fn.rows l.fn.width (exchanged l.fn.a l.fn.b i) j;
  same : (i j : ℕ) → l.k ≤ j → j < l.fn.width → row_at l.rows l.fn.width i j ≡ row_at l.fn.rows l.fn.width i j;
  size : length l.rows ≡ length l.fn.rows;
}
