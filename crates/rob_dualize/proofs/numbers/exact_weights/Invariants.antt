use Rattle.std.specs.Prelude.{◌≡◌, map}
use Rattle.rob_algebra.specs.Fraction.{of_int}
use Rattle.rob_meaning.specs.Places.{tabulate}
use Rattle.rob_simplex.specs.Solutions.{weights_of}
use Rattle.rob_dualize.proofs.numbers.exact_weights.Given as goal

-- the numbers so far
abbrev pub invariant-loop-i : goal.invariant-loop-i
invariant-loop-i g l = map g.N.Exact.value l.numbers ≡ tabulate l.i (λ i. of_int (weights_of l.solver i))
