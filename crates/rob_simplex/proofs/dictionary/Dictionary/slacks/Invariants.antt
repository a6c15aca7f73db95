-- The weights before i are the row's slack entries.
use Rattle.std.specs.Prelude.{◌≡◌, ℕ, ◌<◌, ◌≤◌, ◌+◌, nat_abs, length}
use Rattle.rob_linear.specs.Vectors.{at}
use Rattle.rob_simplex.specs.Dictionaries.{rows_of}
use Rattle.rob_simplex.proofs.dictionary.Dictionary.slacks.Given as goal

abbrev pub invariant-loop-i : goal.invariant-loop-i
invariant-loop-i g l = record {
  done : (j : ℕ) → j < l.i → (at l.weights j ≡ rows_of l.fn.self l.fn.row (l.fn.self.columns + j))
      × (nat_abs (at l.weights j) ≤ l.fn.self.limit);
  size : length l.weights ≡ length l.fn.weights;
}
