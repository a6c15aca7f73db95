use Rattle.std.specs.Prelude.{◌≡◌, map}
use Rattle.rob_meaning.specs.Places.{tabulate}
use Rattle.rob_counterpart.specs.Splitting.{difference}
use Rattle.rob_dualize.specs.Numbers.{told}
use Rattle.rob_dualize.proofs.reading.pair_differences.Given as goal

-- the differences so far
abbrev pub invariant-loop-j : goal.invariant-loop-j
invariant-loop-j g l = map g.N.Exact.value l.plan ≡ tabulate l.j (difference (told g.N.Exact.value l.numbers))
