use Rattle.std.specs.Prelude.{◌≡◌}
use Rattle.rob_meaning.specs.Places.{tabulate}
use Rattle.rob_simplex.specs.Dictionaries.{columns_of}
use Rattle.rob_dualize.proofs.numbers.basis.Given as goal

-- the columns so far
abbrev pub invariant-loop-i : goal.invariant-loop-i
invariant-loop-i g l = l.columns ≡ tabulate l.i (columns_of l.solver.basis)
