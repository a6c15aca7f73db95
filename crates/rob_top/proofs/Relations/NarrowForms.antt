-- Tests that no number is wide with 62 bits on the way to a model's set rows
-- and forms, whose sides are a parameter or a variable.
use Rattle.std.proofs.Common.{◌≡◌, ◌∙◌, ap₂, subst, arith, inl, inr, ◌⊎◌}
use Rattle.std.proofs.lemmas.Bool.{leb-true}
use Rattle.std.specs.Prelude.{ℕ, zero, suc, ◌<◌, ◌≤◌, ◌-◌, ◌^◌, leb, nat_abs, Bool, true, false, List, [], ◌∷◌, Option, Some, None, refl}
use Rattle.rob_algebra.specs.Fraction.{Fraction, ratio, ◌+ℚ◌, ◌*ℚ◌}
use Rattle.rob_algebra.specs.Width.{IsWide, IsWideWhole}
use Rattle.rob_meaning.proofs.ByHand.WorkedDecisions.{decided}
use Rattle.rob_meaning.proofs.ByHand.WorkedTests.{Found, found}
use Rattle.rob_meaning.specs.Clearing.{denominator, whole_at}
use Rattle.rob_meaning.specs.Coefficients.{single, table, unit}
use Rattle.rob_meaning.specs.Expressions.{Expression, sum, no_terms, term}
use Rattle.rob_meaning.specs.Places.{0ℚ, 1ℚ, Each}
use Rattle.rob_meaning.specs.RobustModel.{RobustModel}
use Rattle.rob_meaning.specs.Values.{signed}
use Rattle.rob_sets.specs.FirstWide.{IsWideCleared, Judged, NothingWide, Some_of, clearing, coefficients}
use Rattle.rob_sets.specs.Subexpressions.{HasWideCoefficient, subexpressions}

abbrev pub greatest : ℕ
greatest = 2 ^ 62 - 1

-- ---- tests of numbers
pub apart : (a b : ℕ) → b ≤ a → a < b → ⊥
apart a b le lt = omega arith

pub either_not : {A B : Type 0} → (A → ⊥) → (B → ⊥) → A ⊎ B → ⊥
either_not f g (inl a) = f a
either_not f g (inr b) = g b

abbrev neither : {A B : Type 0} → Option (A → ⊥) → Option (B → ⊥) → Option (A ⊎ B → ⊥)
neither None b = None
neither (Some f) None = None
neither (Some f) (Some g) = Some (either_not f g)

-- the number is at most the greatest
abbrev test_size : (n : ℕ) → Option (greatest < n → ⊥)
test_size n = decided (leb n greatest) (λ e. apart greatest n (leb-true n greatest e))

abbrev pub test_fraction : (x : Fraction) → Option (IsWide greatest x → ⊥)
test_fraction x = neither (test_size (nat_abs x.num)) (test_size x.den)

abbrev test_wholes : (d : ℕ) (qs : List Fraction) → Option (Some_of (λ q. IsWideWhole greatest (whole_at d q)) qs → ⊥)
test_wholes d [] = Some (λ h. h)
test_wholes d (q ∷ qs) = neither (test_size (nat_abs (whole_at d q))) (test_wholes d qs)

abbrev test_clearing : (numbers : List Fraction) → Option (IsWideCleared greatest numbers → ⊥)
test_clearing numbers = neither (test_size (denominator numbers)) (test_wholes (denominator numbers) numbers)

-- ---- coefficients of the difference of two units
abbrev pub bit : Bool → Fraction
bit true = 1ℚ
bit false = 0ℚ

unit_bit : (k j : ℕ) → (b : Bool) × (unit k j ≡ bit b)
unit_bit zero zero = (true, refl)
unit_bit zero (suc j) = (false, refl)
unit_bit (suc k) zero = (false, refl)
unit_bit (suc k) (suc j) = unit_bit k j

pub single_bits : (a b k j : ℕ) → (x : Bool) × (y : Bool) × (single a b k j ≡ bit x *ℚ bit y)
single_bits a b k j =
    let row = unit_bit a k in
    let column = unit_bit b j in
    (row.0, column.0, ap₂ (λ x y. x *ℚ y) row.1 column.1)

abbrev less : Fraction → Fraction → Fraction
less p q = signed false p +ℚ (signed true q +ℚ 0ℚ)

bits_narrow : (x y : Bool) → Found (test_fraction (bit x *ℚ bit y))
unfolding ratio
bits_narrow true true = tt
bits_narrow true false = tt
bits_narrow false true = tt
bits_narrow false false = tt

first_bits_narrow : (x y : Bool) → Found (test_fraction (signed false (bit x *ℚ bit y) +ℚ 0ℚ))
unfolding ratio
first_bits_narrow true true = tt
first_bits_narrow true false = tt
first_bits_narrow false true = tt
first_bits_narrow false false = tt

less_bits_narrow : (x y z w : Bool) → Found (test_fraction (less (bit x *ℚ bit y) (bit z *ℚ bit w)))
unfolding ratio
less_bits_narrow true true true true = tt
less_bits_narrow true true true false = tt
less_bits_narrow true true false true = tt
less_bits_narrow true true false false = tt
less_bits_narrow true false true true = tt
less_bits_narrow true false true false = tt
less_bits_narrow true false false true = tt
less_bits_narrow true false false false = tt
less_bits_narrow false true true true = tt
less_bits_narrow false true true false = tt
less_bits_narrow false true false true = tt
less_bits_narrow false true false false = tt
less_bits_narrow false false true true = tt
less_bits_narrow false false true false = tt
less_bits_narrow false false false true = tt
less_bits_narrow false false false false = tt

wide_is : (x y : Fraction) → x ≡ y → Found (test_fraction y) → IsWide greatest x → ⊥
wide_is x y e narrow wide = found (test_fraction y) narrow (subst (λ (q : Fraction). IsWide greatest q) e wide)

module _ (m : RobustModel) where
  -- an expression with one coefficient, which is 1
  module _ (e : Expression) (a b : ℕ) (e_is : (k j : ℕ) → table m e k j ≡ single a b k j) where
    one_narrow : HasWideCoefficient greatest m e → ⊥
    one_narrow h =
        let s = single_bits a b h.0 h.1 in
        wide_is (table m e h.0 h.1) (bit s.0 *ℚ bit s.1) (e_is h.0 h.1 ∙ s.2) (bits_narrow s.0 s.1) h.2

    first_narrow : HasWideCoefficient greatest m (sum (term false e no_terms)) → ⊥
    first_narrow h =
        let s = single_bits a b h.0 h.1 in
        wide_is (signed false (table m e h.0 h.1) +ℚ 0ℚ) (signed false (bit s.0 *ℚ bit s.1) +ℚ 0ℚ)
        (ap₂ (λ x y. signed false x +ℚ y) (e_is h.0 h.1 ∙ s.2) refl) (first_bits_narrow s.0 s.1) h.2

    -- and the difference of two
    module _ (f : Expression) (c d : ℕ) (f_is : (k j : ℕ) → table m f k j ≡ single c d k j) where
      less_narrow : HasWideCoefficient greatest m (sum (term false e (term true f no_terms))) → ⊥
      less_narrow h =
          let s = single_bits a b h.0 h.1 in
          let t = single_bits c d h.0 h.1 in
          wide_is (less (table m e h.0 h.1) (table m f h.0 h.1)) (less (bit s.0 *ℚ bit s.1) (bit t.0 *ℚ bit t.1))
          (ap₂ less (e_is h.0 h.1 ∙ s.2) (f_is h.0 h.1 ∙ t.2)) (less_bits_narrow s.0 s.1 t.0 t.1) h.2

  pub difference_narrow : (e : Expression) (a b : ℕ) (e_is : (k j : ℕ) → table m e k j ≡ single a b k j)
      (f : Expression) (c d : ℕ) (f_is : (k j : ℕ) → table m f k j ≡ single c d k j)
      → Some_of (HasWideCoefficient greatest m)
      (e ∷ (sum (term false e no_terms) ∷ (f ∷ (sum (term false e (term true f no_terms)) ∷ [])))) → ⊥
  difference_narrow e a b e_is f c d f_is (inl h) = one_narrow e a b e_is h
  difference_narrow e a b e_is f c d f_is (inr (inl h)) = first_narrow e a b e_is h
  difference_narrow e a b e_is f c d f_is (inr (inr (inl h))) = one_narrow f c d f_is h
  difference_narrow e a b e_is f c d f_is (inr (inr (inr (inl h)))) = less_narrow e a b e_is f c d f_is h
  difference_narrow e a b e_is f c d f_is (inr (inr (inr (inr h)))) = h

  -- what is asked of each thing that is judged: of expressions the fact, of numbers that the test finds it
  abbrev pub Given : Judged → Type 0
  Given (coefficients place e) = Some_of (HasWideCoefficient greatest m) (subexpressions e) → ⊥
  Given (clearing place numbers) = Found (test_clearing numbers)

  pub all_narrow : (all : List Judged) → Each Given all → NothingWide greatest m all
  all_narrow [] h = tt
  all_narrow (coefficients place e ∷ rest) h = (h.0, all_narrow rest h.1)
  all_narrow (clearing place numbers ∷ rest) h = (found (test_clearing numbers) h.0, all_narrow rest h.1)
