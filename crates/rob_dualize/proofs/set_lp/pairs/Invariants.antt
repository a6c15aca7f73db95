use Rattle.std.specs.Prelude.{◌≡◌, take}
use Rattle.rob_dualize.specs.SetProgram.{in_pairs}
use Rattle.rob_dualize.proofs.set_lp.pairs.Given as goal

-- the numbers so far
abbrev pub invariant-loop-number : goal.invariant-loop-number
invariant-loop-number l = l.list ≡ in_pairs (take l.number-index l.numbers)
