use Rattle.std.specs.Prelude.{◌≡◌, map, take}
use Rattle.rob_algebra.specs.Fraction.{of_int}
use Rattle.rob_cuts.proofs.items.vector.Given as goal

-- the numbers so far
abbrev pub invariant-loop-number : goal.invariant-loop-number
invariant-loop-number g l = map g.N.Exact.value l.vector ≡ map of_int (take l.number-index l.numbers)
