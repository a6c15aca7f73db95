use Rattle.std.specs.Prelude.{◌≡◌, ◌∷◌, map, take}
use Rattle.rob_worst.proofs.vector.vector.Given as goal

-- the numbers so far
abbrev pub invariant-loop-number : goal.invariant-loop-number
invariant-loop-number g l = map g.N.Exact.value l.numbers ≡ g.N.Exact.value l.fn.first
    ∷ map g.N.Exact.value (take l.number-index l.others)
