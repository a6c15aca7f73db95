-- No listed entry so far is over it, and it is 0 or the size of one.
use Rattle.std.specs.Prelude.{ℕ, ◌<◌, ◌≤◌}
use Rattle.std.proofs.Common.{map, get_or, nat_abs}
use Rattle.rob_linear.specs.Vectors.{at}
use Rattle.rob_entries.proofs.Listing.{IsSizeOf}
use Rattle.rob_entries.proofs.clearing.largest_listed.Given as goal

abbrev pub invariant-loop-k : goal.invariant-loop-k
invariant-loop-k g l = record {
  bound : (j : ℕ) → j < l.k-index → nat_abs (at (map g.E.Entry.value l.fn.row) (get_or l.fn.places j 0)) ≤ l.largest;
  reached : IsSizeOf (map g.E.Entry.value l.fn.row) l.largest;
}
