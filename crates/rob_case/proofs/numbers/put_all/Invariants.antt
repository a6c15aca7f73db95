use Rattle.std.proofs.Common.{◌≡◌, ◌++◌, drop, string_bytes}
use Rattle.rob_case.specs.Numbers.{spaced}
use Rattle.rob_case.proofs.numbers.put_all.Given as goal

abbrev pub invariant-loop-number : goal.invariant-loop-number
invariant-loop-number g l =
    string_bytes l.text ++ spaced g.N.Exact.value (drop l.number-index l.numbers)
    ≡ string_bytes l.initial.text ++ spaced g.N.Exact.value l.numbers
