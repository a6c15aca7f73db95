use Rattle.std.proofs.Common.{◌≡◌, ◌≤◌, min, drop}
use Rattle.std.specs.Prelude.{fold}
use Rattle.rob_syntax.specs.Symbols.{value_of, greatest_digits}
use Rattle.rob_syntax.proofs.WordLemmas.{digit_step}
use Rattle.rob_syntax.proofs.words.digits_value.Given as goal

abbrev pub invariant-loop-digit : goal.invariant-loop-digit
invariant-loop-digit l = record {
  rest : min (fold digit_step l.value (drop l.digit-index l.digits)) greatest_digits
      ≡ min (value_of l.digits) greatest_digits;
  small : l.value ≤ greatest_digits;
}
