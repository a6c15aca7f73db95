-- A number is written in as many words as are counted for it.
use Rattle.std.proofs.Common.{◌≡◌, ℕ, zero, suc, ◌+◌, ◌*◌, ◌/◌, ◌%◌, ◌<◌, ◌≤◌, ◌==◌, ℤ, pos, Bool, true, false, [], ◌∷◌, length, refl, sym, ap, ◌∙◌, arith, length-append}
use Rattle.std.specs.Prelude.{neg_ℤ, nat_abs, int_lt, nat_lt, not, ◌&&◌, if◌then◌else◌, Option, Some, None, unwrap_or}
use Rattle.std.proofs.Math.Nat.{div-add-mod, mul-mod_left}
use Rattle.std.proofs.lemmas.Bool.Decides.{nat_tests}
use Rattle.rob_algebra.proofs.Parts.{neg_parts}
use Rattle.rob_algebra.specs.Fraction.{Fraction, den_pos, neg_ℚ, of_pair}
use Rattle.rob_algebra.specs.FractionPairs.{is_of_pair, nat_abs-times, of_pair_eq}
use Rattle.rob_algebra.specs.Gcd as euclid
use Rattle.rob_index.proofs.LinesRead.ListLemmas.{true_both}
use Rattle.rob_index.specs.Counting.{divisor_fits, fits, minus_tokens, number_tokens, signed_tokens}
use Rattle.rob_meaning.specs.Values.{signed as with_sign}
use Rattle.rob_parse.specs.Building.{FitsNumber}
use Rattle.rob_parse.specs.Written.{fraction, signed_fraction}
use Rattle.rob_round_trip.proofs.Written.ReadableLemmas.{pair_plain}
use Rattle.rob_syntax.specs.Seen.{seen_numeral, seen_signed}
use Rattle.rob_syntax.specs.declared.symbol.Mark.TheVariants as mark
use Rattle.rob_syntax.specs.declared.syntax.Numeral.{Numeral}
use Rattle.rob_syntax.specs.declared.syntax.Signed.{Signed}
use Rattle.rob_write.specs.Pages.{digits, sign}
use Rattle.rob_write.specs.ExpressionWords.{divisor_words, minus_words, number_words}

-- ---- fractions from pairs
-- a divisor of 1 goes
divisor_goes : (n : ℕ) → (of_pair (pos n) 1).den ≡ 1
unfolding of_pair euclid.gcd
divisor_goes n = refl

-- d divides n: the fraction is whole
whole : (n d : ℕ) → 0 < d → n % d ≡ 0 → (of_pair (pos n) d).den ≡ 1
whole n d some none =
    let parts : n ≡ (n / d) * d = omega (arith, div-add-mod n d, none) in
    let same : of_pair (pos n) d ≡ of_pair (pos (n / d)) 1 =
    (of_pair_eq (pos n) (pos (n / d)) d 1 some (omega arith)).1 (ap pos (omega (arith, parts))) in
    ap (λ (x : Fraction). x.den) same ∙ divisor_goes (n / d)

-- what is below a fraction and its pair
crossed : (n d : ℕ) → 0 < d → nat_abs (of_pair (pos n) d).num * d ≡ n * (of_pair (pos n) d).den
crossed n d some =
    let x = of_pair (pos n) d in
    sym (nat_abs-times x.num d) ∙ ap nat_abs (is_of_pair (pos n) d some).cross

-- the fraction is whole: d divides n
divides : (n d : ℕ) → 0 < d → (of_pair (pos n) d).den ≡ 1 → n % d ≡ 0
divides n d some is =
    let x = of_pair (pos n) d in
    let parts : n ≡ nat_abs x.num * d =
    omega (arith, crossed n d some, ap (λ (k : ℕ). n * k) is) in
    ap (λ (k : ℕ). k % d) parts ∙ mul-mod_left (nat_abs x.num) d

is_one : (k : ℕ) → (k == 1) ≡ true → k ≡ 1
is_one k h = grind (arith, nat_tests)

is_none : (k : ℕ) → (k == 0) ≡ true → k ≡ 0
is_none k h = grind (arith, nat_tests)

not_one : (k : ℕ) → (k == 1) ≡ false → k ≡ 1 → ⊥
not_one k h e = grind (arith, nat_tests)

not_none : (k : ℕ) → (k == 0) ≡ false → k ≡ 0 → ⊥
not_none k h e = grind (arith, nat_tests)

-- the two tests are one
whole_tests : (n d : ℕ) → 0 < d → ((of_pair (pos n) d).den == 1) ≡ (n % d == 0)
whole_tests n d some = go ((of_pair (pos n) d).den == 1) (n % d == 0) refl refl
  where
    go : (a b : Bool) → ((of_pair (pos n) d).den == 1) ≡ a → (n % d == 0) ≡ b → a ≡ b
    go true true h k = refl
    go false false h k = refl
    go true false h k = absurd (not_none (n % d) k (divides n d some (is_one _ h)))
    go false true h k = absurd (not_one _ h (whole n d some (is_none (n % d) k)))

-- the fraction is 0 where n is
none_of : (n d : ℕ) → 0 < d → n ≡ 0 → nat_abs (of_pair (pos n) d).num ≡ 0
none_of n d some is =
    let cross = crossed n d some in
    zero_left (nat_abs (of_pair (pos n) d).num) d some (cross ∙ ap (λ (k : ℕ). k * (of_pair (pos n) d).den) is)
  where
    zero_left : (a d : ℕ) → 0 < d → a * d ≡ 0 * (of_pair (pos n) d).den → a ≡ 0
    zero_left zero d some e = refl
    zero_left (suc a) zero some e = absurd (omega arith)
    zero_left (suc a) (suc d) some e = absurd (omega (arith, e))

none_from : (n d : ℕ) → 0 < d → nat_abs (of_pair (pos n) d).num ≡ 0 → n ≡ 0
none_from n d some is =
    let cross = crossed n d some in
    zero_left n (of_pair (pos n) d).den (den_pos (of_pair (pos n) d)) (sym cross ∙ ap (λ (k : ℕ). k * d) is)
  where
    zero_left : (a e : ℕ) → 0 < e → a * e ≡ 0 * d → a ≡ 0
    zero_left zero e some h = refl
    zero_left (suc a) zero some h = absurd (omega arith)
    zero_left (suc a) (suc e) some h = absurd (omega (arith, h))

none_tests : (n d : ℕ) → 0 < d → (nat_abs (of_pair (pos n) d).num == 0) ≡ (n == 0)
none_tests n d some = go (nat_abs (of_pair (pos n) d).num == 0) (n == 0) refl refl
  where
    go : (a b : Bool) → (nat_abs (of_pair (pos n) d).num == 0) ≡ a → (n == 0) ≡ b → a ≡ b
    go true true h k = refl
    go false false h k = refl
    go true false h k = absurd (not_none n k (none_from n d some (is_none _ h)))
    go false true h k = absurd (not_none _ h (none_of n d some (is_none n k)))

-- ---- the words of a number
minus_length : (b : Bool) → length (minus_words b) ≡ (if b then 1 else 0)
minus_length true = refl
minus_length false = refl

divisor_length : (den : ℕ) → 1 + length (divisor_words den) ≡ (if den == 1 then 1 else 3)
divisor_length den = go (den == 1)
  where
    go : (b : Bool) → 1 + length (if b then [] else (sign mark.Slash ∷ (digits den ∷ []))) ≡ (if b then 1 else 3)
    go true = refl
    go false = refl

-- the number fits, as rob_index counts it
within : (limit n : ℕ) → n ≤ limit → not (nat_lt limit n) ≡ true
within limit n h = grind (arith, nat_tests)

divisor_within : (limit : ℕ) (d : Option ℕ) → unwrap_or d 1 ≤ limit → 0 < unwrap_or d 1 → divisor_fits limit d ≡ true
divisor_within limit None h some = refl
divisor_within limit (Some d) h some = grind (arith, nat_tests)

pub does_fit : (limit : ℕ) (n : Numeral) → FitsNumber limit n → fits limit (seen_numeral n) ≡ true
does_fit limit n h =
    true_both (within limit n.numerator h.numerator) (divisor_within limit n.divisor h.divisor h.positive)

-- the digits and what stands behind them
digits_counted : (limit : ℕ) (n : Numeral) → FitsNumber limit n
    → 1 + length (divisor_words (fraction n).den) ≡ number_tokens limit (seen_numeral n)
digits_counted limit n h = go n.divisor (does_fit limit n h) h.positive
  where
    go : (d : Option ℕ) → fits limit (record { numerator = n.numerator; divisor = d }) ≡ true → 0 < unwrap_or d 1
        → 1 + length (divisor_words (fraction (record { numerator = n.numerator; divisor = d })).den)
        ≡ number_tokens limit (record { numerator = n.numerator; divisor = d })
    go None f some = ap (λ (den : ℕ). 1 + length (divisor_words den)) (divisor_goes n.numerator)
    go (Some d) f some =
        divisor_length (of_pair (pos n.numerator) d).den
        ∙ ap (λ (b : Bool). if b then 1 else 3) (whole_tests n.numerator d some)
        ∙ sym (ap (λ (b : Bool). if b && (n.numerator % d == 0) then 1 else 3) f)

pub number_counted : (limit : ℕ) (n : Numeral) → FitsNumber limit n
    → length (number_words (fraction n)) ≡ number_tokens limit (seen_numeral n)
number_counted limit n h =
    let q = fraction n in
    let none = ap (λ (b : Bool). length (minus_words b)) (pair_plain n.numerator (unwrap_or n.divisor 1)) in
    omega (
      arith,
      length-append (minus_words (int_lt q.num (pos 0))) (digits (nat_abs q.num) ∷ divisor_words q.den),
      none,
      digits_counted limit n h,
    )

-- a fraction of natural numbers is its own size
num_size : (n d : ℕ) → (of_pair (pos n) d).num ≡ pos (nat_abs (of_pair (pos n) d).num)
unfolding of_pair
num_size n zero = refl
num_size n (suc k) = refl

opposite : (m : ℕ) → int_lt (neg_ℤ (pos m)) (pos 0) ≡ not (m == 0)
opposite zero = refl
opposite (suc m) = grind (arith, nat_tests)

minus_counted : (limit : ℕ) (n : Numeral) → FitsNumber limit n
    → length (minus_words (int_lt (neg_ℚ (fraction n)).num (pos 0)))
    ≡ minus_tokens limit (record { minus = true; number = seen_numeral n })
minus_counted limit n h =
    let q = fraction n in
    let size = nat_abs q.num in
    let below : int_lt (neg_ℚ q).num (pos 0) ≡ not (n.numerator == 0) =
    ap (λ (z : ℤ). int_lt z (pos 0)) ((neg_parts q).0 ∙ ap neg_ℤ (num_size n.numerator (unwrap_or n.divisor 1)))
    ∙ opposite size ∙ ap not (none_tests n.numerator (unwrap_or n.divisor 1) h.positive) in
    minus_length (int_lt (neg_ℚ q).num (pos 0))
    ∙ ap (λ (b : Bool). if b then 1 else 0) below
    ∙ sym (ap (λ (b : Bool). if not (b && (n.numerator == 0)) then 1 else 0) (does_fit limit n h))

pub signed_counted : (limit : ℕ) (s : Signed) → FitsNumber limit s.number
    → length (number_words (signed_fraction s)) ≡ signed_tokens limit (seen_signed s)
signed_counted limit s h = go s.minus
  where
    go : (minus : Bool) → length (number_words (with_sign minus (fraction s.number)))
        ≡ signed_tokens limit (record { minus = minus; number = seen_numeral s.number })
    go true =
        let q = neg_ℚ (fraction s.number) in
        omega (
          arith,
          length-append (minus_words (int_lt q.num (pos 0))) (digits (nat_abs q.num) ∷ divisor_words q.den),
          minus_counted limit s.number h,
          digits_counted limit s.number h,
          ap (λ (den : ℕ). length (divisor_words den)) (neg_parts (fraction s.number)).1,
        )
    go false = omega (arith, number_counted limit s.number h)
