-- The dual values before k fit.
use Rattle.std.specs.Prelude.{ℕ, ◌<◌, ◌+◌}
use Rattle.rob_algebra.specs.Width.{Fits}
use Rattle.rob_simplex.specs.Dictionaries.{positions}
use Rattle.rob_simplex.specs.Judging.{ratio_of, objective_column}
use Rattle.rob_simplex.proofs.dictionary.Dictionary.objective_is_wide.Given as goal

abbrev pub invariant-loop-k : goal.invariant-loop-k
invariant-loop-k g l =
    (j : ℕ) → j < l.k → Fits g.N.Exact.limit
    (ratio_of l.fn.self (positions l.fn.self) (l.fn.self.columns + j) (objective_column l.fn.self))
