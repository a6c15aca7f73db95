-- Decimal digits are read as the number that they spell.
use Rattle.std.proofs.Common.{◌≡◌, ℕ, ◌+◌, ◌*◌, ◌-◌, ◌^◌, ◌<◌, ◌≤◌, true, List, [], ◌∷◌, refl, ap, arith}
use Rattle.std.specs.Prelude.{fold}
use Rattle.std.specs.Fmt.{decimal}
use Rattle.std.proofs.lemmas.Bool.Decides.{nat_tests}
use Rattle.std.proofs.lemmas.Fmt.{digits_decimal, digits_value-decimal}
use Rattle.std.proofs.lemmas.Str.Parse.{IsNumeralModel, IsDigitsTest, FoldsDigits, numerals_by_fold}
use Rattle.rob_lex.specs.Bytes.{is_digit}
use Rattle.rob_syntax.specs.Symbols.{value_of}

-- each byte is a digit
abbrev pub AreDigits : List ℕ → Type 0
AreDigits [] = Unit {0}
AreDigits (b ∷ bytes) = (is_digit b ≡ true) × AreDigits bytes

above : (b : ℕ) → is_digit b ≡ true → (48 ≤ b) × (b ≤ 57)
above b h = grind (arith, nat_tests)

is_one : (b : ℕ) → 48 ≤ b → b ≤ 57 → is_digit b ≡ true
is_one b h k = grind (arith, nat_tests)

tells : IsDigitsTest AreDigits
tells = record { empty = tt; parts = λ b bytes h. (above b h.0, h.1); more = λ b bytes h k. (is_one b h.0 h.1, k) }

abbrev value_from : ℕ → List ℕ → ℕ
value_from = fold (λ value b. 10 * value + (b - 48))

folds : FoldsDigits value_from
folds = record { empty = λ n. refl; more = λ n c cs h. ap (λ (k : ℕ). value_from k cs) (omega arith) }

own : IsNumeralModel AreDigits (value_from 0)
own = numerals_by_fold AreDigits tells value_from folds

pub decimal_digits : (n : ℕ) → n < 2 ^ 64 → AreDigits (decimal n)
decimal_digits n h = digits_decimal own n h

pub decimal_value : (n : ℕ) → n < 2 ^ 64 → value_of (decimal n) ≡ n
decimal_value n h = digits_value-decimal own n h
