use Rattle.std.proofs.Common.{◌≡◌, ◌++◌, length, option_map}
use Rattle.rob_case.specs.Texts.{spelled}
use Rattle.rob_case.proofs.text.unescape.Given as goal

abbrev pub decreases-loop-rest : goal.decreases-loop-rest
decreases-loop-rest l = length l.rest

-- the bytes so far, with what the rest spells, are the old ones with what the text spells
abbrev pub invariant-loop-rest : goal.invariant-loop-rest
invariant-loop-rest l =
    option_map (λ more. l.bytes.items ++ more) (spelled l.rest)
    ≡ option_map (λ more. l.initial.bytes.items ++ more) (spelled l.initial.rest)
