-- An interval part by part, and bounds whose interval isn't there.
use Rattle.std.proofs.Common.{◌≡◌, List, ◌∷◌, ◌++◌, Option, Some, None, sym, ◌∙◌}
use Rattle.rob_index.specs.Symbols.{Symbol, sign, word}
use Rattle.rob_index.specs.Symbols as is
use Rattle.rob_index.specs.Statements.{Bounds, Signed, between}
use Rattle.rob_index.specs.Statements as stated
use Rattle.rob_index.specs.Grammar.{spell_bounds, spell_signed}
use Rattle.rob_syntax.specs.Fronts.{BeginsNot, Ends, EndsBounds, EndsNumber, Found, IsMissing}
use Rattle.rob_syntax.specs.Parts.{spell_interval}
use Rattle.rob_syntax.proofs.Fronts.PartLemmas.{both_found, first_missing, led, led_found, led_missing, not_led, not_trailed, second_missing, tails, trailed, trailed_found, trailed_missing}

-- ---- two numbers in brackets with a comma between them
-- the comma, the second number and the bracket
abbrev upper_part : Signed → List Symbol
upper_part = led (sign is.comma) (trailed spell_signed (sign is.close_bracket))

comma_follows : (y : Signed) (end : List Symbol) → Ends end → EndsNumber (upper_part y ++ end)
comma_follows y end stop = λ rest same. cc

bracket_stops : (end : List Symbol) → EndsNumber (sign is.close_bracket ∷ end)
bracket_stops end = λ rest same. cc

pub no_bracket : {symbols : List Symbol} → BeginsNot (sign is.open_bracket) symbols
    → IsMissing spell_interval Ends symbols
no_bracket none = not_led none

module _ {symbols inside : List Symbol} (opens : symbols ≡ sign is.open_bracket ∷ inside) where
  pub no_lower : IsMissing spell_signed EndsNumber inside → IsMissing spell_interval Ends symbols
  no_lower missing = led_missing opens (first_missing upper_part comma_follows missing)

  module _ {middle : List Symbol} {x : Signed} (lower : Found spell_signed EndsNumber inside middle x) where
    pub no_comma : BeginsNot (sign is.comma) middle → IsMissing spell_interval Ends symbols
    no_comma none = led_missing opens (second_missing upper_part comma_follows lower (not_led none))

    module _ {behind : List Symbol} (goes_on : middle ≡ sign is.comma ∷ behind) where
      pub no_upper : IsMissing spell_signed EndsNumber behind → IsMissing spell_interval Ends symbols
      no_upper missing =
          led_missing opens
          (second_missing upper_part comma_follows lower
          (led_missing goes_on (trailed_missing (sign is.close_bracket) bracket_stops missing)))

      module _ {last : List Symbol} {y : Signed} (upper : Found spell_signed EndsNumber behind last y) where
        pub no_end : BeginsNot (sign is.close_bracket) last → IsMissing spell_interval Ends symbols
        no_end none =
            led_missing opens
            (second_missing upper_part comma_follows lower
            (led_missing goes_on (not_trailed (sign is.close_bracket) bracket_stops upper none)))

        pub interval_found : {rest : List Symbol} → last ≡ sign is.close_bracket ∷ rest
            → Found spell_interval Ends symbols rest (x, y)
        interval_found closes =
            led_found opens
            (both_found upper_part comma_follows lower
            (led_found goes_on (trailed_found (sign is.close_bracket) bracket_stops upper closes)))

-- ---- bounds
pub no_between : {symbols behind : List Symbol} → symbols ≡ word is.within ∷ behind
    → IsMissing spell_interval Ends behind → IsMissing spell_bounds EndsBounds symbols
no_between {symbols} {behind} leads missing = record { none = none }
  where
    none : (other : Option Bounds) (end : List Symbol) → symbols ≡ spell_bounds other ++ end → EndsBounds end → ⊥
    none None end same stop = stop.within behind (sym same ∙ leads)
    none (Some (between x y)) end same stop = missing.none (x, y) end (tails (sym leads ∙ same)) tt
    none (Some (stated.at_least x)) end same stop = cc
    none (Some (stated.at_most y)) end same stop = cc
