-- Numbers as they are spelled: what a word that spells a fraction is read as.
use Rattle.std.proofs.Common.{rules, ◌*◌, inl, inr, append-nil, ◌≡◌, ◌≢◌, ℕ, suc, ◌+◌, ◌-◌, ◌^◌, ◌<◌, ◌≤◌, List, [], ◌∷◌, ◌++◌, length, get_or, arith, refl, ap, sym, ◌∙◌, subst, Bool, true, false, w64}
use Rattle.std.proofs.lemmas.Bool.Decides.{nat_tests}
use Rattle.std.proofs.lemmas.Fmt.{digits_decimal, IsAscii-signed, parse-signed_decimal}
use Rattle.std.proofs.lemmas.Str.{IsUtf8-from_ascii}
use Rattle.std.proofs.lemmas.Str.Parse.{IsNumeralModel, numerals_by_fold, not_in_digits}
use Rattle.std.specs.Fmt.{decimal, signed_decimal}
use Rattle.std.specs.Prelude.{◌==◌, ◌⊎◌, if◌then◌else◌, codes, Some, None, Result, Ok, ℤ, pos, negsuc, nat_abs, IsTrue, ◌↔◌}
use Rattle.std.specs.Str.{IsAscii, IsUtf8, all_ascii_digits}
use Rattle.std.specs.Str.Parse.{ParsesSigned}
use Rattle.rob_algebra.specs.Fraction.{Fraction, of_pair}
use Rattle.rob_algebra.specs.FractionPairs.{of_pair_parts}
use Rattle.rob_algebra.specs.Width.{Fits, kept}
use Rattle.rob_algebra.proofs.WidthLaws.{kept-fits}
use Rattle.rob_number.proofs.CastLemmas.{fits_small}
use Rattle.rob_cert.specs.Reading.{Lacks}
use Rattle.rob_cert.specs.Spelling.{number_text}
use lib.Signed.{mag}
use Rattle.std.proofs.lemmas.List.{append_cancel_left}

pub mag_small : (z : ℤ) → nat_abs z < 2 ^ 62 → mag z < 2 ^ 63
mag_small (pos n) h = omega arith
mag_small (negsuc n) h = omega arith

-- ---- whole numbers
-- a whole number's text is one of characters
pub whole_is_text : (z : ℤ) (bs : List ℕ) → nat_abs z < 2 ^ 62 → bs ≡ signed_decimal z → IsUtf8 bs
whole_is_text z bs h e = IsUtf8-from_ascii bs (subst IsAscii (sym e) (IsAscii-signed z (mag_small z h)))

-- it is parsed as that number
pub whole_parsed : {E : Type 0} (z : ℤ) (bs : List ℕ) (r : Result ℤ E) → nat_abs z < 2 ^ 62 → bs ≡ signed_decimal z
    → ParsesSigned w64 10 bs r → r ≡ Ok z
whole_parsed z bs r h e p = parse-signed_decimal w64 z bs r (fits_small z h) (mag_small z h) e p

-- ---- bytes that a spelled number lacks
read_on : ℕ → List ℕ → ℕ
read_on n [] = n
read_on n (c ∷ cs) = read_on (10 * n + (c - 48)) cs

own : IsNumeralModel (λ ds. all_ascii_digits ds ≡ true) (read_on 0)
unfolding read_on
own = numerals_by_fold _ (search rules) read_on (search rules)

lacks_by_place : (byte : ℕ) (xs : List ℕ) → ((i : ℕ) → i < length xs → get_or xs i 0 ≢ byte) → Lacks byte xs
lacks_by_place byte [] h = tt
lacks_by_place byte (x ∷ xs) h = (h 0 (omega arith), lacks_by_place byte xs (λ i l. h (suc i) (omega arith)))

pub decimal_lacks : (c n : ℕ) → n < 2 ^ 64 → c < 48 → Lacks c (decimal n)
decimal_lacks c n h l =
    lacks_by_place c (decimal n) (not_in_digits own (decimal n) c (digits_decimal own n h) (λ r. omega (arith, r.0)))

pub signed_lacks : (c : ℕ) (z : ℤ) → nat_abs z < 2 ^ 62 → c < 48 → c ≢ 45 → Lacks c (signed_decimal z)
signed_lacks c (pos n) h l ne = decimal_lacks c n (omega arith) l
signed_lacks c (negsuc n) h l ne = (λ e. ne (sym e), decimal_lacks c (suc n) (omega arith) l)

-- ---- a text is cut at a byte in one way
pub cut_once : (byte : ℕ) (a b x y : List ℕ) → Lacks byte a → Lacks byte b
    → a ++ byte ∷ x ≡ b ++ byte ∷ y → (a ≡ b) × (x ≡ y)
cut_once byte [] [] x y h k e = (refl, cc)
cut_once byte [] (c ∷ b) x y h k e = absurd (k.0 (let p : byte ≡ c = cc in sym p))
cut_once byte (c ∷ a) [] x y h k e = absurd (h.0 (let p : c ≡ byte = cc in p))
cut_once byte (c ∷ a) (d ∷ b) x y h k e =
    let p : c ≡ d = cc in
    let q : a ++ byte ∷ x ≡ b ++ byte ∷ y = cc in
    let r = cut_once byte a b x y h.1 k.1 q in
    (ap (λ n. n ∷ a) p ∙ ap (λ l. d ∷ l) r.0, r.1)

pub cut_lacks : (byte : ℕ) (a x : List ℕ) → Lacks byte (a ++ byte ∷ x) → ⊥
cut_lacks byte [] x h = h.0 refl
cut_lacks byte (c ∷ a) x h = cut_lacks byte a x h.1

-- ---- fractions
-- what stands behind the numerator
abbrev pub tail_text : ℕ → List ℕ
tail_text d = if d == 1 then [] else (codes "/" ++ decimal d)

front_by : (z : ℤ) (d : ℕ) (t : Bool)
    → (if t then signed_decimal z else (signed_decimal z ++ (codes "/" ++ decimal d)))
    ≡ signed_decimal z ++ (if t then [] else (codes "/" ++ decimal d))
front_by z d true = sym (append-nil (signed_decimal z))
front_by z d false = refl

pub number_text-front : (q : Fraction) → number_text q ≡ signed_decimal q.num ++ tail_text q.den
number_text-front q = front_by q.num q.den (q.den == 1)

tail_by : (d : ℕ) (t : Bool) → (d == 1) ≡ t → ((d ≡ 1) × (tail_text d ≡ [])) ⊎ (tail_text d ≡ 47 ∷ decimal d)
tail_by d true e = inl (grind (arith, nat_tests), rw e refl)
tail_by d false e = inr (rw e refl)

pub tail_cases : (d : ℕ) → ((d ≡ 1) × (tail_text d ≡ [])) ⊎ (tail_text d ≡ 47 ∷ decimal d)
tail_cases d = tail_by d (d == 1) refl

module _ (q : Fraction) (word : List ℕ) (num_small : nat_abs q.num < 2 ^ 62) (den_small : q.den < 2 ^ 62)
    (is : word ≡ number_text q) where
  text_is : word ≡ signed_decimal q.num ++ tail_text q.den
  text_is = is ∙ number_text-front q

  -- a word without a slash spells a whole number
  pub without_slash : Lacks 47 word → (q.den ≡ 1) × (word ≡ signed_decimal q.num)
  without_slash h = elim (tail_cases q.den) [
    | inl w ↦ (w.0, text_is ∙ ap (λ t. signed_decimal q.num ++ t) w.1 ∙ append-nil (signed_decimal q.num))
    | inr w ↦ absurd
        (cut_lacks 47 (signed_decimal q.num) (decimal q.den)
        (subst (Lacks 47) (text_is ∙ ap (λ t. signed_decimal q.num ++ t) w) h))
  ]

  -- a word that is cut at its slash spells the numerator and the denominator
  pub with_slash : (front back : List ℕ) → word ≡ front ++ 47 ∷ back → Lacks 47 front → (front ≡ signed_decimal q.num)
      × (back ≡ decimal q.den)
  with_slash front back cut h = elim (tail_cases q.den) [
    | inl w ↦ absurd
        (cut_lacks 47 front back
        (subst (Lacks 47) (sym (text_is ∙ ap (λ t. signed_decimal q.num ++ t) w.1 ∙ append-nil (signed_decimal q.num))
        ∙ cut) (signed_lacks 47 q.num num_small (omega arith) (omega arith))))
    | inr w ↦ cut_once 47 front (signed_decimal q.num) back (decimal q.den) h
        (signed_lacks 47 q.num num_small (omega arith) (omega arith))
        (sym cut ∙ text_is ∙ ap (λ t. signed_decimal q.num ++ t) w)
  ]

-- ---- what `from_parts` answers for the parts of a fraction that fits
pub parts_kept : (limit : ℕ) (q : Fraction) (num den : ℤ) → Fits limit q → num ≡ q.num → den ≡ pos q.den
    → kept limit (of_pair num (nat_abs den)) ≡ Some q
parts_kept limit q num den fits n d =
    ap (kept limit) (ap (λ z. of_pair z (nat_abs den)) n ∙ ap (λ z. of_pair q.num (nat_abs z)) d ∙ of_pair_parts q)
    ∙ kept-fits limit q fits

-- ---- whether a word spells a number
pub spells_none : (q : Fraction) (word : List ℕ) (n : ℤ) → n ≡ q.num
    → ((rest : List ℕ) → word ≡ signed_decimal n ++ rest → ⊥) → word ≡ number_text q → ⊥
spells_none q word n e h is =
    h (tail_text q.den) (is ∙ number_text-front q ∙ ap (λ z. signed_decimal z ++ tail_text q.den) (sym e))

pub spells_some : (q : Fraction) (word rest : List ℕ) (n : ℤ) (d : ℕ) (b : Bool) → n ≡ q.num → d ≡ q.den
    → word ≡ signed_decimal n ++ rest
    → (IsTrue b ↔ (rest ≡ tail_text d)) → IsTrue b ↔ (word ≡ number_text q)
spells_some q word rest n d b e f is h =
    let front : signed_decimal n ++ tail_text d ≡ number_text q =
    ap (λ z. signed_decimal z ++ tail_text d) e ∙ ap (λ k. signed_decimal q.num ++ tail_text k) f
    ∙ sym (number_text-front q) in (
      λ t. is ∙ ap (λ r. signed_decimal n ++ r) (h.0 t) ∙ front,
      λ w. h.1 (append_cancel_left (signed_decimal n) rest (tail_text d) (sym is ∙ w ∙ sym front)),
    )

-- what `from_parts` is asked is the fraction that the word spells, and it is answered where it fits
pub read_refused : (limit : ℕ) (q : Fraction) (num den : ℤ) → Fits limit q → num ≡ q.num → den ≡ pos q.den
    → None ≡ kept limit (of_pair num (nat_abs den)) → ⊥
read_refused limit q num den fits n d e =
    let k = parts_kept limit q num den fits n d in let h : None ≡ Some q = e ∙ k in cc

pub read_answered : (limit : ℕ) (q x : Fraction) (num den : ℤ) → Fits limit q → num ≡ q.num → den ≡ pos q.den
    → Some x ≡ kept limit (of_pair num (nat_abs den)) → x ≡ q
read_answered limit q x num den fits n d e =
    let k = parts_kept limit q num den fits n d in let h : Some x ≡ Some q = e ∙ k in cc

pub limit_small : (limit : ℕ) (q : Fraction) → limit ≤ 2 ^ 62 - 1 → Fits limit q
    → (nat_abs q.num < 2 ^ 62) × (q.den < 2 ^ 62)
limit_small limit q h fits = (omega (arith, fits.num_fits), omega (arith, fits.den_fits))
