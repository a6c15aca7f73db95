use Rattle.std.proofs.Common.{◌≡◌, ◌++◌, length}
use Rattle.std.specs.Prelude.{option_map}
use denote.Text.{Utf8}
use denote.Shadow.{shadow}
use Rattle.rob_case.specs.Numbers.{wholes_of}
use Rattle.rob_case.proofs.numbers.wholes.Given as goal

-- the numbers so far, with those of what is left, are the line's
abbrev pub invariant-loop-left : goal.invariant-loop-left
invariant-loop-left l =
    shadow (Utf8 l.left) × (option_map (λ more. l.numbers.items ++ more) (wholes_of l.left) ≡ wholes_of l.line)

abbrev pub decreases-loop-left : goal.decreases-loop-left
decreases-loop-left l = length l.left
