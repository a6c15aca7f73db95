-- The entries before k are multiplied, and the others are as they were.
use Rattle.std.proofs.Common.{◌≡◌, ℕ, ◌<◌, ◌≤◌, ◌*ℤ◌, map}
use Rattle.rob_linear.specs.Vectors.{at}
use Rattle.rob_entries.proofs.updates.scale_entries.Given as goal

abbrev pub invariant-loop-k : goal.invariant-loop-k
invariant-loop-k g l = record {
  done : (j : ℕ) → j < l.k → at (map g.E.Entry.value l.row) j
      ≡ g.E.Entry.value l.fn.p *ℤ at (map g.E.Entry.value l.fn.row) j;
  same : (j : ℕ) → l.k ≤ j → at (map g.E.Entry.value l.row) j ≡ at (map g.E.Entry.value l.fn.row) j;
}
