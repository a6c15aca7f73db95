-- No entry before the index is over it, and one of them reaches it if it is not 0.
use Rattle.std.proofs.Common.{ℕ, ◌<◌, ◌≤◌, ◌^◌, pos, nat_abs, get_or}
use Rattle.rob_rows.proofs.SizeLemmas.{IsReached}
use Rattle.rob_deep.proofs.sizes.largest.Given as goal

abbrev pub invariant-loop-entry : goal.invariant-loop-entry
invariant-loop-entry l = record {
  bound : (k : ℕ) → k < l.entry-index → nat_abs (get_or l.row k (pos 0)) ≤ l.largest;
  reached : IsReached l.row l.entry-index l.largest;
  size : l.largest ≤ 2 ^ 127;
}
