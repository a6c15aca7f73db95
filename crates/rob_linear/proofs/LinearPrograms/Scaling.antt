-- A point of fractions is some scaled whole point, and what holds of the one holds of the other.
use Rattle.std.proofs.Common.{◌≡◌, ℕ, zero, suc, ◌<◌, sym, ap, ◌∙◌, subst, arith, [], ◌∷◌, refl, inl, inr}
use Rattle.std.proofs.lemmas.Int.{ints}
use Rattle.std.specs.Int.RustNames.{unsigned_abs}
use lib.IntN.{ℤ, pos, negsuc, ◌*ℤ◌}
use lib.Signed.{◌<ℤ◌, ◌≤ℤ◌}
use Rattle.rob_algebra.specs.Polynomials.{lit, ◌:+◌, ◌:*◌, v0, v1, v2, v3}
use Rattle.rob_algebra.specs.Integer.{*ℤ_comm}
use Rattle.rob_algebra.specs.IntegerOrder.{mul-pos_z}
use Rattle.rob_algebra.specs.IntRing as Z
use Rattle.rob_algebra.specs.Fraction.{Fraction, of_int, of_pair, ◌+ℚ◌, ◌*ℚ◌, ◌≤ℚ◌, ◌<ℚ◌, den_pos}
use Rattle.rob_algebra.specs.FractionPairs.{is_int, is_self, is_mul, is_of_pair, same_is, pos_lt}
use Rattle.rob_algebra.specs.FractionLaws.{ring, of_int-add, of_int-mul}
use Rattle.rob_algebra.specs.FractionOrderLaws.{mul_mono_ℚ, cancel_le_ℚ, le_antisym_ℚ, le_refl_ℚ, le_total_ℚ}
use Rattle.rob_linear.specs.Vectors.{sum_to, dot}
use Rattle.rob_linear.specs.Programs.{Program, Admits, Keeps, IsDual}
use Rattle.rob_linear.specs.Optimality.{linear_form, IsFeasible, objective_at, IsDualFeasible, dual_objective_at, IsImprovingRay, IsScaled}
use Rattle.rob_linear.proofs.Bases.Unique.{scaled_to}
use Rattle.rob_linear.proofs.LinearPrograms.Sums.{sum_ext}
use Rattle.rob_algebra.proofs.WholeNumbers.{of_int_le, le_of_int, of_int_lt}

-- ---- whole factors
-- a positive whole factor cancels
pub cancel_ℚ : (s : ℤ) (x y : Fraction) → pos 0 <ℤ s → of_int s *ℚ x ≡ of_int s *ℚ y → x ≡ y
cancel_ℚ s x y sp e =
    le_antisym_ℚ x y
    (cancel_le_ℚ x y (of_int s) (of_int_lt (pos 0) s sp)
    (subst (λ v. of_int s *ℚ x ≤ℚ v) e (le_refl_ℚ (of_int s *ℚ x))))
    (cancel_le_ℚ y x (of_int s) (of_int_lt (pos 0) s sp)
    (subst (λ v. v ≤ℚ of_int s *ℚ x) e (le_refl_ℚ (of_int s *ℚ x))))

-- a factor in front of a fraction that has another one already
pub swap_factor : (a b : ℤ) (x : Fraction) → of_int a *ℚ (of_int b *ℚ x) ≡ of_int b *ℚ (of_int a *ℚ x)
swap_factor a b x = ring (of_int a ∷ of_int b ∷ x ∷ []) (v0 :* (v1 :* v2)) (v1 :* (v0 :* v2)) refl

pub zero_scaled : (s : ℤ) → of_int s *ℚ of_int (pos 0) ≡ of_int (pos 0)
zero_scaled s = ring (of_int s ∷ []) (v0 :* lit (pos 0)) (lit (pos 0)) refl

-- ---- scaled points
pub linear_form-scaled : (n : ℕ) (a : ℕ → ℤ) (x : ℕ → Fraction) (s : ℤ) (z : ℕ → ℤ) → IsScaled n x s z
    → of_int s *ℚ linear_form n a x ≡ of_int (dot n a z)
linear_form-scaled zero a x s z h = zero_scaled s
linear_form-scaled (suc n) a x s z h =
    let ih : of_int s *ℚ linear_form n a x ≡ of_int (dot n a z) =
    linear_form-scaled n a x s z (λ j l. h j (omega arith)) in
    let e : of_int s *ℚ x n ≡ of_int (z n) = h n (omega arith) in
    ring (of_int s ∷ linear_form n a x ∷ of_int (a n) ∷ x n ∷ []) (v0 :* (v1 :+ v2 :* v3))
    (v0 :* v1 :+ v2 :* (v0 :* v3)) refl
    ∙ ap (λ v. v +ℚ of_int (a n) *ℚ (of_int s *ℚ x n)) ih
    ∙ ap (λ v. of_int (dot n a z) +ℚ of_int (a n) *ℚ v) e
    ∙ ap (λ v. of_int (dot n a z) +ℚ v) (sym (of_int-mul (a n) (z n)))
    ∙ sym (of_int-add (dot n a z) (a n *ℤ z n))

-- the denominator times a fraction is its numerator
pub den-times : (x : Fraction) → of_int (pos x.den) *ℚ x ≡ of_int x.num
den-times x =
    same_is (is_mul (is_int (pos x.den)) (is_self x)) (is_int x.num)
    (Z.ring (pos x.den ∷ x.num ∷ []) (v0 :* v1 :* lit (pos 1)) (v1 :* (lit (pos 1) :* v0)) refl)

-- each point of fractions is some scaled point
pub cleared : (n : ℕ) (x : ℕ → Fraction) → (s : ℤ) × (z : ℕ → ℤ) × (pos 0 <ℤ s) × IsScaled n x s z
cleared n x =
    let t : (s : ℤ) × (w : ℕ → ℤ) × (pos 0 <ℤ s) × ((i : ℕ) → i < n → pos (x i).den *ℤ w i ≡ s *ℤ (x i).num) =
    scaled_to n (λ i. pos (x i).den) (λ i. (x i).num) (λ i l. pos_lt (x i).den (den_pos (x i))) in (
      t.0,
      t.1,
      t.2,
      (λ j l.
          cancel_ℚ (pos (x j).den) (of_int t.0 *ℚ x j) (of_int (t.1 j)) (pos_lt (x j).den (den_pos (x j)))
          (swap_factor (pos (x j).den) t.0 (x j) ∙ ap (λ v. of_int t.0 *ℚ v) (den-times (x j))
          ∙ sym (of_int-mul t.0 (x j).num) ∙ ap of_int (sym (t.3 j l)) ∙ of_int-mul (pos (x j).den) (t.1 j))),
    )

-- z over s, as fractions
abbrev pub over : ℤ → (ℕ → ℤ) → ℕ → Fraction
over s z j = of_pair (z j) (unsigned_abs s)

pub over_scaled : (n : ℕ) (s : ℤ) (z : ℕ → ℤ) → pos 0 <ℤ s → IsScaled n (over s z) s z
over_scaled n (pos zero) z sp j l = absurd (omega (arith, ints))
over_scaled n (negsuc k) z sp j l = absurd (omega (arith, ints))
over_scaled n (pos (suc k)) z sp j l =
    same_is (is_mul (is_int (pos (suc k))) (is_of_pair (z j) (suc k) (omega arith))) (is_int (z j))
    (Z.ring (pos (suc k) ∷ z j ∷ []) (v0 :* v1 :* lit (pos 1)) (v1 :* (lit (pos 1) :* v0)) refl)

-- ---- order
scaled_le : (s : ℤ) (x y : Fraction) (a b : ℤ) → pos 0 <ℤ s → of_int s *ℚ x ≡ of_int a
    → of_int s *ℚ y ≡ of_int b → x ≤ℚ y → a ≤ℤ b
scaled_le s x y a b sp e f h =
    let k : of_int s *ℚ x ≤ℚ of_int s *ℚ y = mul_mono_ℚ x y (of_int s) h (of_int_le (pos 0) s (omega (arith, ints))) in
    le_of_int a b (subst (λ v. v ≤ℚ of_int b) e (subst (λ v. of_int s *ℚ x ≤ℚ v) f k))

le_scaled : (s : ℤ) (x y : Fraction) (a b : ℤ) → pos 0 <ℤ s → of_int s *ℚ x ≡ of_int a
    → of_int s *ℚ y ≡ of_int b → a ≤ℤ b → x ≤ℚ y
le_scaled s x y a b sp e f h =
    cancel_le_ℚ x y (of_int s) (of_int_lt (pos 0) s sp)
    (subst (λ v. v ≤ℚ of_int s *ℚ y) (sym e) (subst (λ v. of_int a ≤ℚ v) (sym f) (of_int_le a b h)))

-- two numbers with two scales
pub le_cross : (s t : ℤ) (x y : Fraction) (a b : ℤ) → pos 0 <ℤ s → pos 0 <ℤ t → of_int s *ℚ x ≡ of_int a
    → of_int t *ℚ y ≡ of_int b → (t *ℤ a) ≤ℤ (s *ℤ b) → x ≤ℚ y
le_cross s t x y a b sp tp e f h =
    le_scaled (s *ℤ t) x y (t *ℤ a) (s *ℤ b) (mul-pos_z s t sp tp)
    (ap (λ v. v *ℚ x) (of_int-mul s t) ∙ ring (of_int s ∷ of_int t ∷ x ∷ []) (v0 :* v1 :* v2) (v1 :* (v0 :* v2)) refl
    ∙ ap (λ v. of_int t *ℚ v) e ∙ sym (of_int-mul t a))
    (ap (λ v. v *ℚ y) (of_int-mul s t) ∙ ring (of_int s ∷ of_int t ∷ y ∷ []) (v0 :* v1 :* v2) (v0 :* (v1 :* v2)) refl
    ∙ ap (λ v. of_int s *ℚ v) f ∙ sym (of_int-mul s b))
    h

-- ---- feasible points
pub feasible_scaled : (P : Program) (x : ℕ → Fraction) (s : ℤ) (z : ℕ → ℤ) → pos 0 <ℤ s → IsScaled P.n x s z
    → IsFeasible P x → Admits P s z
feasible_scaled P x s z sp h f = record {
  scale = sp;
  nonnegative = λ j l. scaled_le s (of_int (pos 0)) (x j) (pos 0) (z j) sp (zero_scaled s) (h j l) (f.nonnegative j l);
  rows = λ i l. scaled_le s (linear_form P.n (P.a i) x) (of_int (P.b i)) (dot P.n (P.a i) z) (s *ℤ P.b i) sp
      (linear_form-scaled P.n (P.a i) x s z h) (sym (of_int-mul s (P.b i))) (f.rows i l);
}

pub scaled_feasible : (P : Program) (x : ℕ → Fraction) (s : ℤ) (z : ℕ → ℤ) → IsScaled P.n x s z
    → Admits P s z → IsFeasible P x
scaled_feasible P x s z h a = record {
  nonnegative =
      λ j l. le_scaled s (of_int (pos 0)) (x j) (pos 0) (z j) a.scale (zero_scaled s) (h j l) (a.nonnegative j l);
  rows = λ i l. le_scaled s (linear_form P.n (P.a i) x) (of_int (P.b i)) (dot P.n (P.a i) z) (s *ℤ P.b i) a.scale
      (linear_form-scaled P.n (P.a i) x s z h) (sym (of_int-mul s (P.b i))) (a.rows i l);
}

-- ---- dual values
column_sum : (m : ℕ) (y : ℕ → ℤ) (f : ℕ → ℤ) → sum_to m (λ i. y i *ℤ f i) ≡ dot m f y
column_sum m y f = sum_ext m (λ i. y i *ℤ f i) (λ i. f i *ℤ y i) (λ i l. *ℤ_comm (y i) (f i))

pub scaled_dual : (P : Program) (y : ℕ → Fraction) (d : ℤ) (w : ℕ → ℤ) → IsScaled P.m y d w
    → IsDual P d w → IsDualFeasible P y
scaled_dual P y d w h u = record {
  nonnegative =
      λ i l. le_scaled d (of_int (pos 0)) (y i) (pos 0) (w i) u.scale (zero_scaled d) (h i l) (u.nonnegative i l);
  columns = λ j l.
      le_scaled d (of_int (P.c j)) (linear_form P.m (λ i. P.a i j) y) (d *ℤ P.c j) (dot P.m (λ i. P.a i j) w) u.scale
      (sym (of_int-mul d (P.c j))) (linear_form-scaled P.m (λ i. P.a i j) y d w h)
      (subst (λ v. (d *ℤ P.c j) ≤ℤ v) (column_sum P.m w (λ i. P.a i j)) (u.columns j l));
}

pub dual_scaled : (P : Program) (y : ℕ → Fraction) (d : ℤ) (w : ℕ → ℤ) → pos 0 <ℤ d → IsScaled P.m y d w
    → IsDualFeasible P y → IsDual P d w
dual_scaled P y d w dp h u = record {
  scale = dp;
  nonnegative = λ i l. scaled_le d (of_int (pos 0)) (y i) (pos 0) (w i) dp (zero_scaled d) (h i l) (u.nonnegative i l);
  columns = λ j l.
      subst (λ v. (d *ℤ P.c j) ≤ℤ v) (sym (column_sum P.m w (λ i. P.a i j)))
      (scaled_le d (of_int (P.c j)) (linear_form P.m (λ i. P.a i j) y) (d *ℤ P.c j) (dot P.m (λ i. P.a i j) w) dp
      (sym (of_int-mul d (P.c j))) (linear_form-scaled P.m (λ i. P.a i j) y d w h) (u.columns j l));
}

pub dual_objective-scaled : (P : Program) (y : ℕ → Fraction) (d : ℤ) (w : ℕ → ℤ) → IsScaled P.m y d w
    → of_int d *ℚ dual_objective_at P y ≡ of_int (dot P.m w P.b)
dual_objective-scaled P y d w h = linear_form-scaled P.m P.b y d w h ∙ ap of_int (sym (column_sum P.m w P.b))

-- ---- rays
positive_scaled : (s : ℤ) (x : Fraction) (a : ℤ) → pos 0 <ℤ s → of_int s *ℚ x ≡ of_int a
    → pos 0 <ℤ a → of_int (pos 0) <ℚ x
positive_scaled s x a sp e g =
    elim (le_total_ℚ x (of_int (pos 0))) [
      | inl h ↦ let k : a ≤ℤ pos 0 = scaled_le s x (of_int (pos 0)) a (pos 0) sp e (zero_scaled s) h in
          absurd (omega (arith, ints))
      | inr h ↦ h
    ]

pub scaled_ray : (P : Program) (r : ℕ → Fraction) (s : ℤ) (z : ℕ → ℤ) → pos 0 <ℤ s → IsScaled P.n r s z → Keeps P z
    → pos 0 <ℤ dot P.n P.c z → IsImprovingRay P r
scaled_ray P r s z sp h k g = record {
  nonnegative = λ j l. le_scaled s (of_int (pos 0)) (r j) (pos 0) (z j) sp (zero_scaled s) (h j l) (k.nonnegative j l);
  rows = λ i l. le_scaled s (linear_form P.n (P.a i) r) (of_int (pos 0)) (dot P.n (P.a i) z) (pos 0) sp
      (linear_form-scaled P.n (P.a i) r s z h) (zero_scaled s) (k.rows i l);
  improves = positive_scaled s (objective_at P r) (dot P.n P.c z) sp (linear_form-scaled P.n P.c r s z h) g;
}
