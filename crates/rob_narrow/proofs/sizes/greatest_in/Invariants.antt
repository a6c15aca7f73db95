-- No entry before the index is over it, and no more than `least` and the entries make it so.
use Rattle.std.proofs.Common.{ℕ, ◌<◌, ◌≤◌, pos, nat_abs, get_or}
use Rattle.rob_rows.specs.PrimitiveParts.{IsWithin}
use Rattle.rob_narrow.proofs.sizes.greatest_in.Given as goal

abbrev pub invariant-loop-entry : goal.invariant-loop-entry
invariant-loop-entry l = record {
  within : (k : ℕ) → k < l.entry-index → nat_abs (get_or l.row k (pos 0)) ≤ l.greatest;
  from : l.least ≤ l.greatest;
  least : (h : ℕ) → l.least ≤ h → IsWithin h l.row → l.greatest ≤ h;
}
