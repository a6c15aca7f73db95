-- Calls of `text`: each number is answered.
use Rattle.std.proofs.Common.{◌≡◌, ◌⊎◌, [], ◌∷◌, refl, inr, arith}
use Rattle.std.proofs.lemmas.Str.Parse.{digit_from_value}
use Rattle.std.specs.Prelude.{codes}
use Rattle.rob_top.specs.Completeness.{MustEnd}
use Rattle.rob_top.specs.Endings.{IsUnput}
use Rattle.rob_top.specs.WorkedCalls.{text_call}
use Rattle.rob_commands.specs.declared.ended.Ended.{Ended}
use Rattle.rob_commands.specs.declared.ended.Ended.TheVariants.{Printed}
use Rattle.rob_words.specs.Commands.{IsPlain, IsSpelled, Line, own}
use Rattle.rob_words.specs.Kinds.{IsNumber}
use Rattle.rob_words.specs.Values.{Word}
use Rattle.rob_words.specs.declared.route.Route.TheVariants.{Dual}
use Rattle.rob_words.specs.declared.verb.Verb.TheVariants.{Text}
use Rattle.rob_words.specs.declared.width.Width.TheVariants.{SixtyTwo}

-- a number begins with a digit
pub number_plain : (word : Word) → IsNumber word → IsPlain word
number_plain [] h = absurd (omega (arith, h.digits.0))
number_plain (byte ∷ bytes) h = let digit = digit_from_value byte h.digits.1.0 in λ e. (omega (arith, digit, e))

-- ---- text WORD
abbrev line : Word → Line
line word = record { verb = Text; own = word ∷ []; way = Dual; width = SixtyTwo }

line_spelled : (word : Word) → IsNumber word → IsSpelled (codes "text" ∷ word ∷ []) (line word)
line_spelled word h = (
  own word ∷ [],
  record {
    spelled = refl;
    own = refl;
    count = refl;
    names = (number_plain word h, tt);
    kinds = (h, tt);
    width = inr (refl, refl);
    route = (refl, refl);
  },
)

pub number_is_answered : (word : Word) → IsNumber word → (result : Ended) → MustEnd (text_call word) result
    → (result ≡ Printed) ⊎ IsUnput result
number_is_answered word h result must = must.generated (line word) (line_spelled word h) refl
