use Rattle.std.specs.Prelude.{◌≡◌, map}
use Rattle.rob_algebra.specs.Fraction.{◌*ℚ◌}
use Rattle.rob_meaning.specs.Places.{at, tabulate}
use Rattle.rob_cuts.proofs.step.whole_step.Given as goal

-- the columns so far
abbrev pub invariant-loop-j : goal.invariant-loop-j
invariant-loop-j g l =
    map g.N.Exact.value l.columns ≡ tabulate l.j (λ j. g.N.Exact.value l.scale *ℚ at (map g.N.Exact.value l.step) j)
