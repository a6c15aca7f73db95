-- Numbers in lowest terms are read as they were written.
use Rattle.std.proofs.Common.{◌≡◌, ℕ, ◌^◌, ◌<◌, Bool, true, false, List, [], ◌∷◌, ◌++◌, refl, ap, ◌∙◌, arith}
use Rattle.std.specs.Prelude.{ℤ, pos, negsuc, nat_abs, neg_ℤ, ◌*ℤ◌, int_lt, min, ◌==◌, if◌then◌else◌, Option, Some, None, unwrap_or}
use Rattle.std.specs.Fmt.{decimal}
use Rattle.std.proofs.lemmas.Bool.Decides.{nat_tests}
use Rattle.rob_algebra.specs.Fraction.{Fraction, of_pair, neg_ℚ, den_pos}
use Rattle.rob_algebra.specs.FractionPairs.{of_pair_parts, is_neg, is_of_pair, is_self, same_is}
use Rattle.rob_lex.specs.declared.token.Kind.TheVariants as kind
use Rattle.rob_syntax.specs.declared.symbol.Symbol.{Symbol}
use Rattle.rob_syntax.specs.declared.symbol.Symbol.TheVariants.{Digits, Sign}
use Rattle.rob_syntax.specs.declared.symbol.Mark.TheVariants as mark
use Rattle.rob_syntax.specs.declared.syntax.Numeral.{Numeral}
use Rattle.rob_syntax.specs.declared.syntax.Signed.{Signed}
use Rattle.rob_write.specs.Pages.{digits, sign}
use Rattle.rob_write.specs.ExpressionWords.{divisor_words, minus_words, number_words}
use Rattle.rob_syntax.specs.Grammar.{spell_divisor, spell_number, spell_minus}
use Rattle.rob_meaning.specs.Values.{signed}
use Rattle.rob_parse.specs.Written.{fraction, signed_fraction}
use Rattle.rob_round_trip.specs.Pages.{symbols_on}
use Rattle.rob_algebra.specs.Width.{Fits}
use Rattle.rob_algebra.proofs.WholeNumbers.{size_is}
use Rattle.rob_syntax.specs.Statements.{spell_signed}
use Rattle.rob_index.specs.Reading.{one}
use Rattle.rob_syntax.specs.Symbols.{symbol_at, greatest_digits}
use Rattle.rob_round_trip.proofs.Pages.DigitLemmas.{decimal_value}

-- the numeral of a number in lowest terms, without its sign
abbrev pub divisor_of : ℕ → Option ℕ
divisor_of den = if den == 1 then None else Some den

abbrev pub numeral_of : Fraction → Numeral
numeral_of q = record { numerator = nat_abs q.num; divisor = divisor_of q.den }

least : (n : ℕ) → n < 2 ^ 62 → min n (2 ^ 62) ≡ n
least n h = grind (arith, nat_tests)

digits_back : (words : List (List ℕ)) (n : ℕ) → n < 2 ^ 62 → symbol_at one words kind.Digits (decimal n) ≡ Digits n ∷ []
digits_back words n h =
    ap (λ (v : ℕ). Digits v ∷ []) (ap (λ (v : ℕ). min v greatest_digits) (decimal_value n (omega arith)) ∙ least n h)

divisor_back : (words : List (List ℕ)) (den : ℕ) → den < 2 ^ 62
    → symbols_on words (divisor_words den) ≡ spell_divisor (divisor_of den)
divisor_back words den h = go (den == 1)
  where
    go : (one : Bool) → symbols_on words (if one then [] else (sign mark.Slash ∷ (digits den ∷ [])))
        ≡ spell_divisor (if one then None else Some den)
    go true = refl
    go false = ap (λ (l : List Symbol). Sign mark.Slash ∷ (l ++ [])) (digits_back words den h)

plain_back : (words : List (List ℕ)) (q : Fraction) → nat_abs q.num < 2 ^ 62 → q.den < 2 ^ 62
    → symbols_on words (digits (nat_abs q.num) ∷ divisor_words q.den) ≡ spell_number (numeral_of q)
plain_back words q h k = λ i. digits_back words (nat_abs q.num) h i ++ divisor_back words q.den k i

-- a number that isn't negative
pub number_back : (limit : ℕ) (words : List (List ℕ)) (q : Fraction) → limit < 2 ^ 62 → Fits limit q
    → int_lt q.num (pos 0) ≡ false → symbols_on words (number_words q) ≡ spell_number (numeral_of q)
number_back limit words q small h plain =
    ap (λ (b : Bool). symbols_on words (minus_words b ++ (digits (nat_abs q.num) ∷ divisor_words q.den))) plain
    ∙ plain_back words q (omega (arith, h.num_fits)) (omega (arith, h.den_fits))

divisor_is : (den : ℕ) → unwrap_or (divisor_of den) 1 ≡ den
divisor_is den = go (den == 1) refl
  where
    go : (one : Bool) → (den == 1) ≡ one → unwrap_or (if one then None else Some den) 1 ≡ den
    go true is = grind (arith, nat_tests)
    go false is = refl

pub fraction_back : (q : Fraction) → int_lt q.num (pos 0) ≡ false → fraction (numeral_of q) ≡ q
fraction_back q plain =
    (λ i. of_pair (size_is q.num plain i) (divisor_is q.den i)) ∙ of_pair_parts q

-- a number with its sign
abbrev pub signed_of : Fraction → Signed
signed_of q = record { minus = int_lt q.num (pos 0); number = numeral_of q }

pub signed_back : (limit : ℕ) (words : List (List ℕ)) (q : Fraction) → limit < 2 ^ 62 → Fits limit q
    → symbols_on words (number_words q) ≡ spell_signed (signed_of q)
signed_back limit words q small h = go (int_lt q.num (pos 0))
  where
    plain : symbols_on words (digits (nat_abs q.num) ∷ divisor_words q.den) ≡ spell_number (numeral_of q)
    plain = plain_back words q (omega (arith, h.num_fits)) (omega (arith, h.den_fits))

    go : (b : Bool) → symbols_on words (minus_words b ++ (digits (nat_abs q.num) ∷ divisor_words q.den))
        ≡ spell_minus b ++ spell_number (numeral_of q)
    go true = ap (λ (l : List Symbol). Sign mark.Minus ∷ l) plain
    go false = plain

below : (z : ℤ) → int_lt z (pos 0) ≡ true → neg_ℤ (pos (nat_abs z)) ≡ z
below (pos n) h = grind (arith, nat_tests)
below (negsuc n) h = refl

pub signed_fraction_back : (q : Fraction) → signed_fraction (signed_of q) ≡ q
signed_fraction_back q = go (int_lt q.num (pos 0)) refl
  where
    go : (b : Bool) → int_lt q.num (pos 0) ≡ b → signed b (fraction (numeral_of q)) ≡ q
    go false plain = fraction_back q plain
    go true minus =
        ap (λ (d : ℕ). neg_ℚ (of_pair (pos (nat_abs q.num)) d)) (divisor_is q.den)
        ∙ same_is (is_neg (is_of_pair (pos (nat_abs q.num)) q.den (den_pos q))) (is_self q)
        (ap (λ (z : ℤ). z *ℤ pos q.den) (below q.num minus))
