use Rattle.std.specs.Prelude.{◌≡◌, map}
use Rattle.rob_algebra.specs.Fraction.{◌-ℚ◌}
use Rattle.rob_meaning.specs.Places.{tabulate}
use Rattle.rob_counterpart.specs.Reform.{positive_row, negative_row}
use Rattle.rob_dualize.specs.Numbers.{told}
use Rattle.rob_dualize.specs.Wholes.{wholes}
use Rattle.rob_dualize.proofs.reading.vector.Given as goal

-- the numbers of the parameters so far
abbrev pub invariant-loop-c : goal.invariant-loop-c
invariant-loop-c g l =
    map g.N.Exact.value l.vector
    ≡ tabulate l.c (λ k. told g.N.Exact.value l.numbers (negative_row (wholes l.model.forms.now l.model.set.now) l.i
    k) -ℚ told g.N.Exact.value l.numbers (positive_row (wholes l.model.forms.now l.model.set.now) l.i k))
