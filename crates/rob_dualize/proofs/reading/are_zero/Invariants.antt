use Rattle.std.specs.Prelude.{◌≡◌, map, drop}
use Rattle.rob_counterpart.specs.ReadNumbers.{all_zero}
use Rattle.rob_dualize.proofs.reading.are_zero.Given as goal

-- all are 0 where the others are
abbrev pub invariant-loop-number : goal.invariant-loop-number
invariant-loop-number g l = all_zero (map g.N.Exact.value l.numbers)
    ≡ all_zero (map g.N.Exact.value (drop l.number-index l.numbers))
