-- The numerator and the denominator of what the operations give.
use Rattle.std.specs.Prelude.{◌≡◌, ◌≢◌, ℕ, ◌*◌, ◌<◌, ℤ, pos, neg_ℤ, ◌+ℤ◌, ◌*ℤ◌, ◌≤ℤ◌, ◌↔◌, nat_abs, refl}
use Rattle.std.proofs.Common.{arith, sym, ◌∙◌, ap, ap₂}
use Rattle.std.proofs.lemmas.Int.{ints}
use Rattle.rob_algebra.specs.Gcd.{gcd}
use Rattle.rob_algebra.specs.Integer.{mul-one}
use Rattle.rob_algebra.specs.Fraction.{Fraction, of_pair, of_int, ◌+ℚ◌, ◌*ℚ◌, neg_ℚ, ◌≤ℚ◌, to_reduced, den_pos, coprime}
use Rattle.rob_algebra.specs.FractionPairs.{is_self, is_int, is_of_pair, same_is}
use Rattle.rob_algebra.specs.PairOrder.{is_le_in, is_le_out}
pub use Rattle.rob_algebra.specs.FractionLaws.{size_some}

-- a pair in lowest terms has itself as the parts of its fraction
pub lowest_parts : (n : ℤ) (d : ℕ) → 0 < d → gcd (nat_abs n) d ≡ 1 → ((of_pair n d).num ≡ n) × ((of_pair n d).den ≡ d)
lowest_parts n d h e =
    let x : Fraction = record { num = n; den = d; reduced = to_reduced n d h e } in
    let p : of_pair n d ≡ x = same_is (is_of_pair n d h) (is_self x) refl in
    (ap (λ (y : Fraction). y.num) p, ap (λ (y : Fraction). y.den) p)

-- ---- whole numbers
pub of_int-parts : (z : ℤ) → ((of_int z).num ≡ z) × ((of_int z).den ≡ 1)
unfolding of_int gcd
of_int-parts z = lowest_parts z 1 (omega arith) refl

pub of_int-one : (n : ℤ) (d : ℕ) → d ≡ 1 → of_pair n d ≡ of_int n
unfolding of_int
of_int-one n d e = ap (λ k. of_pair n k) e

pub add-wholes : (x y : Fraction) → x.den ≡ 1 → y.den ≡ 1 → x +ℚ y ≡ of_int (x.num +ℤ y.num)
unfolding of_int ◌+ℚ◌
add-wholes x y p q =
    ap₂ of_pair (ap₂ ◌+ℤ◌ (ap (λ k. x.num *ℤ pos k) q ∙ mul-one x.num) (ap (λ k. y.num *ℤ pos k) p ∙ mul-one y.num))
    (ap₂ ◌*◌ p q)

pub mul-wholes : (x y : Fraction) → x.den ≡ 1 → y.den ≡ 1 → x *ℚ y ≡ of_int (x.num *ℤ y.num)
unfolding of_int ◌*ℚ◌
mul-wholes x y p q = ap (λ k. of_pair (x.num *ℤ y.num) k) (ap₂ ◌*◌ p q)

-- ---- the other sign
nat_abs-neg_ℤ : (z : ℤ) → nat_abs (neg_ℤ z) ≡ nat_abs z
nat_abs-neg_ℤ z = omega (arith, ints)

pub neg_parts : (x : Fraction) → ((neg_ℚ x).num ≡ neg_ℤ x.num) × ((neg_ℚ x).den ≡ x.den)
unfolding neg_ℚ
neg_parts x = lowest_parts (neg_ℤ x.num) x.den (den_pos x) (ap (λ k. gcd k x.den) (nat_abs-neg_ℤ x.num) ∙ coprime x)

-- ---- zero
-- ---- the operations from cross products
pub add-cross : (x y : Fraction) (n : ℤ) (d : ℕ) → n ≡ x.num *ℤ pos y.den +ℤ y.num *ℤ pos x.den
    → d ≡ x.den * y.den → of_pair n d ≡ x +ℚ y
unfolding ◌+ℚ◌
add-cross x y n d p q = ap₂ of_pair p q

pub mul-cross : (x y : Fraction) (n : ℤ) (d : ℕ) → n ≡ x.num *ℤ y.num → d ≡ x.den * y.den → of_pair n d ≡ x *ℚ y
unfolding ◌*ℚ◌
mul-cross x y n d p q = ap₂ of_pair p q

-- ---- whole numbers among the fractions
pub one_not_zero : of_int (pos 1) ≢ of_int (pos 0)
one_not_zero e =
    let p : pos 1 ≡ pos 0 = sym (of_int-parts (pos 1)).0 ∙ ap (λ (x : Fraction). x.num) e ∙ (of_int-parts (pos 0)).0 in
    absurd (omega (arith, ints))

pub of_int-le : (m n : ℤ) → (of_int m ≤ℚ of_int n) ↔ (m ≤ℤ n)
of_int-le m n = (
  λ h. let p : (m *ℤ pos 1) ≤ℤ (n *ℤ pos 1) = is_le_out (is_int m) (is_int n) h in omega (arith, ints),
  λ h. is_le_in (is_int m) (is_int n) (omega (arith, ints)),
)
