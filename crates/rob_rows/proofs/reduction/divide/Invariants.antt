-- The entries before the index are divided and within the limit, and the others are as they were.
use Rattle.std.proofs.Common.{◌≡◌, ℕ, ◌<◌, ◌≤◌, pos, ◌*ℤ◌, nat_abs, get_or}
use Rattle.rob_rows.proofs.reduction.divide.Given as goal

abbrev pub invariant-loop-entry : goal.invariant-loop-entry
invariant-loop-entry l = record {
  divided : (k : ℕ) → k < l.entry-index → pos l.common.value *ℤ get_or l.row k (pos 0) ≡ get_or l.fn.row k (pos 0);
  within : (k : ℕ) → k < l.entry-index → nat_abs (get_or l.row k (pos 0)) ≤ l.limit;
  kept : (k : ℕ) → l.entry-index ≤ k → get_or l.row k (pos 0) ≡ get_or l.fn.row k (pos 0);
}
