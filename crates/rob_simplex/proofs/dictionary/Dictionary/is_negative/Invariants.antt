-- The slack entries before k are 0.
use Rattle.std.specs.Prelude.{◌≡◌, ℕ, ◌<◌, ◌+◌, pos}
use Rattle.rob_simplex.specs.Dictionaries.{rows_of}
use Rattle.rob_simplex.proofs.dictionary.Dictionary.is_negative.Given as goal

abbrev pub invariant-loop-k : goal.invariant-loop-k
invariant-loop-k g l = (j : ℕ) → j < l.k → rows_of l.fn.self l.fn.i (l.fn.self.columns + j) ≡ pos 0
