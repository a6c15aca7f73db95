-- The numbers before place k are those of the other one.
use Rattle.std.specs.Prelude.{◌≡◌, ℕ, ◌<◌, length}
use Rattle.rob_linear.specs.Vectors.{at}
use Rattle.rob_entries.proofs.cells.Cells.deepened.Given as goal

abbrev pub invariant-loop-k : goal.invariant-loop-k
invariant-loop-k g l = record {
  size : length l.cells ≡ length l.fn.other;
  done : (j : ℕ) → j < l.k → at l.cells j ≡ at l.fn.other j;
}
