-- The slack entries before k are in the same ratio.
use Rattle.std.specs.Prelude.{◌≡◌, ℕ, ◌<◌, ◌+◌, pos}
use Rattle.rob_simplex.specs.Dictionaries.{rows_of}
use Rattle.rob_simplex.proofs.Leaving.RatioLemmas.{difference}
use Rattle.rob_simplex.proofs.dictionary.Dictionary.comes_before_tied.Given as goal

abbrev pub invariant-loop-k : goal.invariant-loop-k
invariant-loop-k g l =
    (j : ℕ) → j < l.k → difference l.fn.self.columns 0 (rows_of l.fn.self l.fn.i) (rows_of l.fn.self l.fn.e)
    (g.E.Entry.value l.fn.p) (g.E.Entry.value l.fn.q) (l.fn.self.columns + j) ≡ pos 0
