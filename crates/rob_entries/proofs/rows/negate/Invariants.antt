-- The entries before k are negated, and the others are as they were.
use Rattle.std.proofs.Common.{◌≡◌, ℕ, ◌<◌, ◌≤◌, neg_ℤ, map}
use Rattle.rob_linear.specs.Vectors.{at}
use Rattle.rob_entries.proofs.rows.negate.Given as goal

abbrev pub invariant-loop-k : goal.invariant-loop-k
invariant-loop-k g l = record {
  done : (j : ℕ) → j < l.k → at (map g.E.Entry.value l.row) j ≡ neg_ℤ (at (map g.E.Entry.value l.fn.row) j);
  same : (j : ℕ) → l.k ≤ j → at (map g.E.Entry.value l.row) j ≡ at (map g.E.Entry.value l.fn.row) j;
}
