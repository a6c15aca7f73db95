-- The places so far are written and marked, and all else is as it was.
use Rattle.std.proofs.Common.{◌≡◌, ◌≢◌, ℕ, ◌<◌, ◌*ℤ◌, ◌-ℤ◌, map, get_or}
use Rattle.rob_linear.specs.Vectors.{at}
use Rattle.rob_entries.proofs.MapLemmas.{MarkedTo}
use Rattle.rob_entries.proofs.updates.subtract.Given as goal

abbrev pub invariant-loop-k : goal.invariant-loop-k
invariant-loop-k g l = record {
  done : (j : ℕ) → j < l.k-index → at (map g.E.Entry.value l.row) (get_or l.fn.places j 0)
      ≡ at (map g.E.Entry.value l.fn.row) (get_or l.fn.places j 0)
      -ℤ (g.E.Entry.value l.fn.q *ℤ at (map g.E.Entry.value l.fn.other) (get_or l.fn.places j 0));
  same : (x : ℕ) → ((j : ℕ) → j < l.k-index → x ≢ get_or l.fn.places j 0)
      → at (map g.E.Entry.value l.row) x ≡ at (map g.E.Entry.value l.fn.row) x;
  marked : MarkedTo l.fn.start l.fn.places l.k-index (at (map g.E.Entry.value l.row)) l.fn.marks l.marks;
}
