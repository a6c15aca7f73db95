-- Numbers times their least common denominator, and a form at such multiples of a scenario and of a plan.
use Rattle.std.proofs.Common.{◌≡◌, ℕ, List, [], ◌∷◌, length, map, refl, sym, ap, ◌∙◌, subst, inl, inr}
use lib.IntN.{pos}
use Rattle.rob_algebra.specs.Fraction.{Fraction, of_int, ◌*ℚ◌, ◌≤ℚ◌, ◌<ℚ◌}
use Rattle.rob_algebra.specs.FractionLaws as Q
use Rattle.rob_algebra.specs.FractionOrderLaws.{le_total_ℚ, not_lt_ℚ, le_of_lt_ℚ, mul_pos_ℚ, mul_mono_ℚ}
use Rattle.rob_algebra.specs.Polynomials.{lit, ◌:*◌, v0}
use Rattle.std.proofs.lemmas.List.{length-map}
use Rattle.std.proofs.lemmas.Nat.Gcd.{dvd_refl}
use Rattle.rob_linear.specs.Vectors.{at}
use Rattle.rob_meaning.specs.Clearing.{denominator, whole_at}
use Rattle.rob_meaning.specs.Forms.{matrices, matrix_at, form_columns, form_at}
use Rattle.rob_meaning.specs.Places.{0ℚ, 1ℚ}
use Rattle.rob_meaning.specs.RobustModel.{RobustModel}
use Rattle.rob_meaning.specs.Vectors.{scale}
use Rattle.rob_meaning.proofs.Tables.AtLemmas.{sum_at-scale, sum_at-scale_plan}
use Rattle.rob_meaning.proofs.Tables.ClearingLemmas.{denominator_pos, each_divides, multiplier_pos, whole-row}
use Rattle.rob_counterpart.specs.WorstCases.{whole_plan}
use Rattle.rob_counterpart.proofs.Pairs.TabulateLemmas.{row-tabulate}
use Rattle.rob_runs.specs.Cuts.{wholes}
use Rattle.rob_runs.specs.Readings.{cleared_by}

-- ---- the least common denominator as a fraction
pub factor_pos : (qs : List Fraction) → 0ℚ <ℚ cleared_by qs
factor_pos qs = multiplier_pos (denominator qs) (denominator_pos qs)

-- the whole numbers are the multiple
pub wholes-scale : (qs : List Fraction) → map of_int (wholes qs) ≡ scale (cleared_by qs) qs
wholes-scale qs = whole-row (denominator qs) qs (each_divides (denominator qs) qs (dvd_refl (denominator qs)))

pub length-wholes : (qs : List Fraction) → length (wholes qs) ≡ length qs
length-wholes qs = length-map qs (whole_at (denominator qs))

module _ (m : RobustModel) where
  -- a cleared plan
  pub whole_plan-scale : (z : List Fraction) → length z ≡ form_columns m
      → whole_plan m (at (wholes z)) ≡ scale (cleared_by z) z
  whole_plan-scale z e = sym (row-tabulate (wholes z) (form_columns m) (length-wholes z ∙ e)) ∙ wholes-scale z

  -- the form at a multiple of a plan, and at a multiple of a scenario
  pub form_at-scaled_plan : (i : ℕ) (s : Fraction) (p : List Fraction) (c : Fraction) (z : List Fraction)
      → form_at m i s p (scale c z) ≡ c *ℚ form_at m i s p z
  form_at-scaled_plan i s p c z = sum_at-scale_plan (matrix_at (matrices m) i) s c p z

  pub form_at-scaled : (i : ℕ) (c s : Fraction) (p z : List Fraction)
      → form_at m i (c *ℚ s) (scale c p) z ≡ c *ℚ form_at m i s p z
  form_at-scaled i c s p z = sum_at-scale (matrix_at (matrices m) i) c s p z

  pub form_at-scaled_one : (i : ℕ) (c : Fraction) (p z : List Fraction)
      → form_at m i c (scale c p) z ≡ c *ℚ form_at m i 1ℚ p z
  form_at-scaled_one i c p z =
      ap (λ v. form_at m i v (scale c p) z) (Q.ring (c ∷ []) v0 (v0 :* lit (pos 1)) refl) ∙ form_at-scaled i c 1ℚ p z

  pub form_at-scaled_ray : (i : ℕ) (c : Fraction) (p z : List Fraction)
      → form_at m i 0ℚ (scale c p) z ≡ c *ℚ form_at m i 0ℚ p z
  form_at-scaled_ray i c p z =
      ap (λ v. form_at m i v (scale c p) z) (Q.ring (c ∷ []) (lit (pos 0)) (v0 :* lit (pos 0)) refl)
      ∙ form_at-scaled i c 0ℚ p z

-- a positive multiple is positive, is at most 0, exactly where the number is
pub times_pos : (c x : Fraction) → 0ℚ <ℚ c → 0ℚ <ℚ x → 0ℚ <ℚ c *ℚ x
times_pos c x h k = mul_pos_ℚ c x h k

pub over_pos_out : (c x : Fraction) → 0ℚ <ℚ c → 0ℚ <ℚ c *ℚ x → 0ℚ <ℚ x
over_pos_out c x h k =
    elim (le_total_ℚ x 0ℚ) [
      | inl l ↦
          absurd (not_lt_ℚ (c *ℚ x) 0ℚ
          (subst (λ v. c *ℚ x ≤ℚ v) (Q.ring (c ∷ []) (v0 :* lit (pos 0)) (lit (pos 0)) refl)
          (mul_mono_ℚ x 0ℚ c l (le_of_lt_ℚ 0ℚ c h))) k)
      | inr l ↦ l
    ]

pub times_nonpos : (c x : Fraction) → 0ℚ <ℚ c → x ≤ℚ 0ℚ → c *ℚ x ≤ℚ 0ℚ
times_nonpos c x h k =
    subst (λ v. c *ℚ x ≤ℚ v) (Q.ring (c ∷ []) (v0 :* lit (pos 0)) (lit (pos 0)) refl)
    (mul_mono_ℚ x 0ℚ c k (le_of_lt_ℚ 0ℚ c h))
