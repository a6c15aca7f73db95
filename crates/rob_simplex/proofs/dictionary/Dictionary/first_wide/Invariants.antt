-- What the positions before i tell fits.
use Rattle.std.specs.Prelude.{ℕ, ◌<◌}
use Rattle.rob_simplex.specs.Judging.{TellsAt}
use Rattle.rob_simplex.proofs.dictionary.Dictionary.first_wide.Given as goal

abbrev pub invariant-loop-i : goal.invariant-loop-i
invariant-loop-i g l = (j : ℕ) → j < l.i → TellsAt g.N.Exact.limit l.fn.growing l.fn.self j
