use Rattle.std.specs.Prelude.{◌≡◌, map}
use Rattle.rob_meaning.specs.Places.{tabulate}
use Rattle.rob_simplex.specs.Solutions.{dual_of}
use Rattle.rob_dualize.proofs.numbers.dual_values.Given as goal

-- the numbers so far
abbrev pub invariant-loop-i : goal.invariant-loop-i
invariant-loop-i g l = map g.N.Exact.value l.numbers ≡ tabulate l.i (dual_of l.solver)
