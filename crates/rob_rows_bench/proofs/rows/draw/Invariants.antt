-- The entries before the index are within the limit.
use Rattle.std.proofs.Common.{ℕ, ◌<◌, ◌≤◌, ◌-◌, ◌^◌, pos, nat_abs, get_or}
use Rattle.rob_rows_bench.proofs.rows.draw.Given as goal

abbrev pub invariant-loop-entry : goal.invariant-loop-entry
invariant-loop-entry l = (k : ℕ) → k < l.entry-index → nat_abs (get_or l.row k (pos 0)) ≤ 2 ^ 62 - 1
