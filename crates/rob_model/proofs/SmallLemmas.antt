-- 0 and 1 fit every limit, and the numbers at the places of a list.
use Rattle.std.proofs.Common.{◌≡◌, ℕ, zero, suc, ◌<◌, ◌≤◌, List, [], ◌∷◌, ◌++◌, map, length, get_or, arith, refl, ap, sym, ◌∙◌, ℤ}
use Rattle.std.specs.Prelude.{pos, negsuc, neg_ℤ, nat_abs, ◌*ℤ◌, ◌≤ℤ◌, ◌<ℤ◌, Some, None}
use Rattle.std.proofs.lemmas.Int.{ints}
use Rattle.rob_algebra.specs.Fraction.{Fraction, of_pair, of_int, ratio, ext, neg_ℚ, sign_of, sign_ℚ}
use Rattle.rob_algebra.specs.FractionPairs.{same_is, is_self, is_neg}
use Rattle.rob_algebra.specs.Width.{Fits, kept}
use Rattle.rob_algebra.proofs.WidthLaws.{kept-fits}
use Rattle.rob_model.proofs.KeptLemmas.{some_is, none_is_none}
use Rattle.rob_meaning.specs.Places.{0ℚ, 1ℚ, at}
use Rattle.rob_meaning.specs.UncertaintySet.{abs_ℚ}

pub zero_fits : (limit : ℕ) → 1 ≤ limit → Fits limit 0ℚ
unfolding ratio
zero_fits limit h = record { num_fits = omega arith; den_fits = h }

one_fits : (limit : ℕ) → 1 ≤ limit → Fits limit 1ℚ
unfolding ratio
one_fits limit h = record { num_fits = h; den_fits = h }

-- 0 over 1 is kept, and so is 1 over 1
pub zero_kept : (limit : ℕ) → 1 ≤ limit → kept limit (of_pair (pos 0) 1) ≡ Some 0ℚ
unfolding of_int
zero_kept limit h = kept-fits limit 0ℚ (zero_fits limit h)

pub one_kept : (limit : ℕ) → 1 ≤ limit → kept limit (of_pair (pos 1) 1) ≡ Some 1ℚ
unfolding of_int
one_kept limit h = kept-fits limit 1ℚ (one_fits limit h)

-- so the number that is made of 0 over 1 is 0, and it is not refused; and so for 1
pub made_zero : (limit : ℕ) → 1 ≤ limit → (x : Fraction) → Some x ≡ kept limit (of_pair (pos 0) 1) → x ≡ 0ℚ
made_zero limit h x e = some_is (e ∙ zero_kept limit h)

pub zero_made : (limit : ℕ) → 1 ≤ limit → None ≡ kept limit (of_pair (pos 0) 1) → ⊥
zero_made limit h e = none_is_none 0ℚ (e ∙ zero_kept limit h)

pub made_one : (limit : ℕ) → 1 ≤ limit → (x : Fraction) → Some x ≡ kept limit (of_pair (pos 1) 1) → x ≡ 1ℚ
made_one limit h x e = some_is (e ∙ one_kept limit h)

pub one_made : (limit : ℕ) → 1 ≤ limit → None ≡ kept limit (of_pair (pos 1) 1) → ⊥
one_made limit h e = none_is_none 1ℚ (e ∙ one_kept limit h)

-- a number of a list, and its fraction
pub at_map : {N : Type 0} (value : N → Fraction) (xs : List N) (k : ℕ) (x : N) → k < length xs → x ≡ get_or xs k x
    → value x ≡ at (map value xs) k
at_map value [] k x h e = absurd (omega arith)
at_map value (y ∷ ys) zero x h e = ap value e
at_map value (y ∷ ys) (suc k) x h e = at_map value ys k x (omega arith) e

-- past the end there is 0
pub at_past : {N : Type 0} (value : N → Fraction) (xs : List N) (k : ℕ) → length xs ≤ k → 0ℚ ≡ at (map value xs) k
at_past value [] k h = refl
at_past value (y ∷ ys) zero h = absurd (omega arith)
at_past value (y ∷ ys) (suc k) h = at_past value ys k (omega arith)

-- what was pushed to an empty list is its one item
pub one_item : {A : Type 0} {a b : List A} {x : A} → a ≡ [] → b ≡ a ++ x ∷ [] → b ≡ x ∷ []
one_item {x = x} e f = f ∙ ap (λ xs. xs ++ x ∷ []) e

-- ---- the size of a number
size_by : (x : Fraction) (z : ℤ) → x.num ≡ z → (sign_of z <ℤ pos 0 → neg_ℚ x ≡ abs_ℚ x)
    × (pos 0 ≤ℤ sign_of z → x ≡ abs_ℚ x)
size_by x (pos zero) e =
    (λ h. absurd (omega (arith, ints)), λ h. ext x (abs_ℚ x) (e ∙ ap (λ (z : ℤ). pos (nat_abs z)) (sym e)) refl)
size_by x (pos (suc n)) e =
    (λ h. absurd (omega (arith, ints)), λ h. ext x (abs_ℚ x) (e ∙ ap (λ (z : ℤ). pos (nat_abs z)) (sym e)) refl)
size_by x (negsuc n) e = (
  λ h. same_is (is_neg (is_self x)) (is_self (abs_ℚ x))
      (ap (λ (z : ℤ). z *ℤ pos x.den) (ap neg_ℤ e ∙ sym (ap (λ (z : ℤ). pos (nat_abs z)) e))),
  λ h. absurd (omega (arith, ints)),
)

-- below 0 it is the negation, otherwise the number
pub size_of_negative : (x : Fraction) → sign_ℚ x <ℤ pos 0 → neg_ℚ x ≡ abs_ℚ x
size_of_negative x h = (size_by x x.num refl).0 h

pub size_of_other : (x : Fraction) → pos 0 ≤ℤ sign_ℚ x → x ≡ abs_ℚ x
size_of_other x h = (size_by x x.num refl).1 h
