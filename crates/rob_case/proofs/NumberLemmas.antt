-- What `parse` answers is the number that the word writes.
use Rattle.std.proofs.Common.{◌≡◌, ℕ, ◌^◌, ◌<◌, Bool, true, false, cond, ◌&&◌, ℤ, pos, negsuc, List, length, Some, None, refl, sym, ap, w64, FitsSigned}
use Rattle.std.proofs.lemmas.Bool.{lt-ltb, ltb-true}
use Rattle.std.specs.Cmp.Derive.{both_true}
use Rattle.std.specs.Str.{all_ascii_digits}
use Rattle.std.specs.Str.Parse.{IsNumeral, digits_value, signed_digits_value, without_leading_plus, without_leading_sign}
use Rattle.std.proofs.lemmas.Str.Parse.{IsNumeralModel, numerals_by_value, tells_all_ascii_digits}
use Rattle.rob_case.specs.Numbers.{is_numeral, is_whole, small_of, whole_of}

own : IsNumeralModel (λ ds. all_ascii_digits ds ≡ true) (digits_value 10)
own = numerals_by_value _ tells_all_ascii_digits

numeral_true : (ds : List ℕ) → IsNumeral 10 ds → is_numeral ds ≡ true
numeral_true ds h = both_true (lt-ltb 0 (length ds) h.0) (own.from ds h.1)

-- both tests hold
pub left_true : (a b : Bool) → (a && b) ≡ true → a ≡ true
left_true true b e = refl
left_true false b e = e

pub right_true : (a b : Bool) → (a && b) ≡ true → b ≡ true
right_true true b e = e
right_true false b e = absurd cc

numeral_from : (ds : List ℕ) → is_numeral ds ≡ true → IsNumeral 10 ds
numeral_from ds e = (ltb-true 0 (length ds) (left_true _ _ e), own.to ds (right_true _ _ e))

fits_true : (z : ℤ) → FitsSigned w64 z → is_whole z ≡ true
fits_true (pos n) h = lt-ltb n (2 ^ 63) h.sfits
fits_true (negsuc n) h = lt-ltb n (2 ^ 63) h.sfits

fits_from : (z : ℤ) → is_whole z ≡ true → FitsSigned w64 z
fits_from (pos n) e = record { sfits = ltb-true n (2 ^ 63) e }
fits_from (negsuc n) e = record { sfits = ltb-true n (2 ^ 63) e }

-- where a test fails, there is nothing
none_where : {X : Type 0} (b : Bool) (x : X) → (b ≡ true → ⊥) → cond b (Some x) None ≡ None
none_where true x h = absurd (h refl)
none_where false x h = refl

some_where : {X : Type 0} (b : Bool) (x y : X) → b ≡ true → y ≡ x → cond b (Some x) None ≡ Some y
some_where b x y e s = rw e (ap Some (sym s))

-- the number below 2 ^ 32 that a text writes, which begins with a plus or not
module _ (word : List ℕ) where
  pub small_read : (n : ℕ) → IsNumeral 10 (without_leading_plus word)
      × (digits_value 10 (without_leading_plus word) < 2 ^ 32)
      → n ≡ digits_value 10 (without_leading_plus word) → small_of word ≡ Some n
  small_read n h e =
      some_where _ _ n (both_true (numeral_true _ h.0) (lt-ltb _ (2 ^ 32) h.1)) e

  pub small_unread : ¬ (IsNumeral 10 (without_leading_plus word)
      × (digits_value 10 (without_leading_plus word) < 2 ^ 32)) → small_of word ≡ None
  small_unread h =
      none_where _ _
      (λ t. h (
        numeral_from _ (left_true _ _ t),
        ltb-true _ (2 ^ 32) (right_true (is_numeral (without_leading_plus word)) _ t),
      ))

  -- the whole number of 64 bits
  pub whole_read : (z : ℤ) → IsNumeral 10 (without_leading_sign word) × FitsSigned w64 (signed_digits_value 10 word)
      → z ≡ signed_digits_value 10 word → whole_of word ≡ Some z
  whole_read z h e = some_where _ _ z (both_true (numeral_true _ h.0) (fits_true _ h.1)) e

  pub whole_unread : ¬ (IsNumeral 10 (without_leading_sign word) × FitsSigned w64 (signed_digits_value 10 word))
      → whole_of word ≡ None
  whole_unread h =
      none_where _ _
      (λ t. h (numeral_from _ (left_true _ _ t), fits_from _ (right_true (is_numeral (without_leading_sign word)) _ t)))
