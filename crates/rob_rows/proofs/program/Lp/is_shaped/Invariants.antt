-- The rows before the index are as long as c.
use Rattle.std.proofs.Common.{◌≡◌, ℕ, ℤ, ◌<◌, List, get_or, length}
use Rattle.rob_rows.proofs.program.Lp.is_shaped.Given as goal

abbrev pub invariant-loop-row : goal.invariant-loop-row
invariant-loop-row l = (k : ℕ) (d : List ℤ) → k < l.row-index → length (get_or l.row-items k d) ≡ l.columns
