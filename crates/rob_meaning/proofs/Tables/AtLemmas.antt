-- At is linear in the vector and in the plan; and a plan has a bound exactly
-- where each At is at most 0 in every scenario.
use Rattle.std.specs.Prelude.{◌≡◌, ℕ, zero, suc, ◌<◌, ℤ, List, [], ◌∷◌, ◌++◌, length, map, refl, ◌↔◌, slice_get, IfSome}
use Rattle.std.proofs.Common.{sym, ◌∙◌, ap, ap₂, arith, length-append}
use Rattle.rob_algebra.specs.Fraction.{Fraction, ◌+ℚ◌, ◌*ℚ◌, ◌≤ℚ◌}
use Rattle.rob_algebra.specs.FractionOrderLaws as Q
use Rattle.rob_algebra.specs.FractionLaws.{ℚ_ring}
use Rattle.rob_algebra.specs.Lists.{dot, scale, plus_all, mat_vec, dot-scale, dot-plus}
use Rattle.rob_meaning.proofs.Conditions.AdmittedLemmas.{admits_jointly, jointly_admits}
use Rattle.rob_meaning.proofs.Scenarios.JointBoundLemmas.{bound_joint, joint_bound}
use Rattle.rob_meaning.proofs.Lists.EachLemmas.{each_both}
use Rattle.rob_meaning.proofs.Tables.FormLemmas.{Nonpositive, keeps_forms, forms_keep, forms_linear}
use Rattle.rob_meaning.proofs.Tables.MatrixLemmas.{dot-scale_right, dot-plus_right, length-mat_vec, sum_in, sum_out, matrix_in, matrix_out}
use Rattle.rob_meaning.specs.Clearing.{fractions}
use Rattle.rob_meaning.specs.Degrees.{IsLinear}
use Rattle.rob_meaning.specs.Expressions.{Expression}
use Rattle.rob_meaning.specs.Forms.{FormHolds, form_at, forms, matrices, matrix_at, matrix_of, numbers_at, plan_vector, sum_at}
use Rattle.rob_meaning.specs.Guarantee.{HasBound}
use Rattle.rob_meaning.specs.JointMeaning.{HasJointBound, Keeps}
use Rattle.rob_meaning.specs.Places.{0ℚ, 1ℚ, Each}
use Rattle.rob_meaning.specs.RobustModel.{RobustModel, column_count}
use Rattle.rob_meaning.specs.UncertaintySet.{Admits}
use Rattle.rob_meaning.specs.Values.{value}
use Rattle.rob_meaning.specs.WellFormed.{IsModel}

-- ---- linear in the vector
pub sum_at-plus : (a : List (List ℤ)) (s r : Fraction) (p q z : List Fraction) → length p ≡ length q →
    sum_at a (s +ℚ r) (plus_all ℚ_ring p q) z ≡ sum_at a s p z +ℚ sum_at a r q z
sum_at-plus a s r p q z e = dot-plus ℚ_ring (s ∷ p) (r ∷ q) (numbers_at a z) (ap suc e)

pub sum_at-scale : (a : List (List ℤ)) (c s : Fraction) (p z : List Fraction) →
    sum_at a (c *ℚ s) (scale ℚ_ring c p) z ≡ c *ℚ sum_at a s p z
sum_at-scale a c s p z = dot-scale ℚ_ring c (s ∷ p) (numbers_at a z)

-- ---- linear in the plan
mat_vec-plus : (rows : List (List Fraction)) (z w : List Fraction) → length z ≡ length w →
    mat_vec ℚ_ring rows (plus_all ℚ_ring z w) ≡ plus_all ℚ_ring (mat_vec ℚ_ring rows z) (mat_vec ℚ_ring rows w)
mat_vec-plus [] z w e = refl
mat_vec-plus (row ∷ rows) z w e =
    ap₂ (λ (x : Fraction) (xs : List Fraction). x ∷ xs) (dot-plus_right row z w e) (mat_vec-plus rows z w e)

mat_vec-scale : (rows : List (List Fraction)) (c : Fraction) (z : List Fraction) →
    mat_vec ℚ_ring rows (scale ℚ_ring c z) ≡ scale ℚ_ring c (mat_vec ℚ_ring rows z)
mat_vec-scale [] c z = refl
mat_vec-scale (row ∷ rows) c z =
    ap₂ (λ (x : Fraction) (xs : List Fraction). x ∷ xs) (dot-scale_right c row z) (mat_vec-scale rows c z)

pub sum_at-plus_plan : (a : List (List ℤ)) (s : Fraction) (p z w : List Fraction) → length z ≡ length w →
    sum_at a s p (plus_all ℚ_ring z w) ≡ sum_at a s p z +ℚ sum_at a s p w
sum_at-plus_plan a s p z w e =
    ap (λ (xs : List Fraction). dot ℚ_ring (s ∷ p) xs) (mat_vec-plus (fractions a) z w e)
    ∙ dot-plus_right (s ∷ p) (numbers_at a z) (numbers_at a w)
    (length-mat_vec (fractions a) z ∙ sym (length-mat_vec (fractions a) w))

pub sum_at-scale_plan : (a : List (List ℤ)) (s c : Fraction) (p z : List Fraction) →
    sum_at a s p (scale ℚ_ring c z) ≡ c *ℚ sum_at a s p z
sum_at-scale_plan a s c p z =
    ap (λ (xs : List Fraction). dot ℚ_ring (s ∷ p) xs) (mat_vec-scale (fractions a) c z)
    ∙ dot-scale_right c (s ∷ p) (numbers_at a z)

-- ---- bounds
module _ (m : RobustModel) (model : IsModel m) (plan : List Fraction) (tau : Fraction) where
  columns_count : length plan ≡ column_count m → length (plan ++ tau ∷ []) ≡ suc (column_count m)
  columns_count fits = length-append plan (tau ∷ []) ∙ omega arith

  -- what a plan keeps in one scenario, by the sums of the forms
  pub keeps_at : (u : List Fraction) → length u ≡ length m.parameters → length plan ≡ column_count m →
      Keeps m plan tau u →
      (i : ℕ) → form_at m i 1ℚ u (plan_vector 1ℚ plan tau) ≤ℚ 0ℚ
  keeps_at u hu fits h i =
      matrix_in (matrix_of m) (λ a. sum_at a 1ℚ u (plan_vector 1ℚ plan tau) ≤ℚ 0ℚ) (Q.le_refl_ℚ 0ℚ) (forms m)
      (each_both (IsLinear m) (Nonpositive m plan tau u fits)
      (λ e. sum_at (matrix_of m e) 1ℚ u (plan_vector 1ℚ plan tau) ≤ℚ 0ℚ)
      (λ e linear k. sum_in m e u (plan ++ tau ∷ []) linear hu (columns_count fits) k)
      (forms m) (forms_linear m model) (keeps_forms m plan tau u fits model h))
      i

  pub at_keeps : (u : List Fraction) → length u ≡ length m.parameters → length plan ≡ column_count m →
      ((i : ℕ) → i < length (matrices m) → form_at m i 1ℚ u (plan_vector 1ℚ plan tau) ≤ℚ 0ℚ) → Keeps m plan tau u
  at_keeps u hu fits h =
      forms_keep m plan tau u fits model
      (each_both (IsLinear m) (λ e. sum_at (matrix_of m e) 1ℚ u (plan_vector 1ℚ plan tau) ≤ℚ 0ℚ)
      (Nonpositive m plan tau u fits)
      (λ e linear k. sum_out m e u (plan ++ tau ∷ []) linear hu (columns_count fits) k)
      (forms m) (forms_linear m model)
      (matrix_out (matrix_of m) (λ a. sum_at a 1ℚ u (plan_vector 1ℚ plan tau) ≤ℚ 0ℚ) (forms m) h))

  pub keeps_law : (u : List Fraction) → length u ≡ length m.parameters → length plan ≡ column_count m →
      Keeps m plan tau u ↔ ((i : ℕ) → form_at m i 1ℚ u (plan_vector 1ℚ plan tau) ≤ℚ 0ℚ)
  keeps_law u hu fits = (keeps_at u hu fits, λ h. at_keeps u hu fits (λ i k. h i))

  -- a bound over joint scenarios, by the sums of the forms in every admitted one
  pub joint_bound_at : HasJointBound m plan tau → (u : List Fraction) → Admits m u →
      (i : ℕ) → form_at m i 1ℚ u (plan_vector 1ℚ plan tau) ≤ℚ 0ℚ
  joint_bound_at h u admitted = keeps_at u admitted.numbers h.columns (h.keeps u (admits_jointly m model u admitted))

  pub at_joint_bound : length plan ≡ column_count m →
      ((u : List Fraction) → Admits m u → (i : ℕ) → i < length (matrices m)
      → form_at m i 1ℚ u (plan_vector 1ℚ plan tau) ≤ℚ 0ℚ) →
      HasJointBound m plan tau
  at_joint_bound fits h = record {
    columns = fits;
    keeps = λ u jointly. at_keeps u jointly.numbers fits (h u (jointly_admits m model u jointly));
  }

  pub joint_bound_law : HasJointBound m plan tau ↔
      ((length plan ≡ column_count m)
      × ((u : List Fraction) → Admits m u → (i : ℕ) → form_at m i 1ℚ u (plan_vector 1ℚ plan tau) ≤ℚ 0ℚ))
  joint_bound_law =
      (λ h. (h.columns, joint_bound_at h), λ h. at_joint_bound h.0 (λ u admitted i k. h.1 u admitted i))

  -- the same of a bound
  pub bound_at : HasBound m plan tau → (u : List Fraction) → Admits m u →
      (i : ℕ) → form_at m i 1ℚ u (plan_vector 1ℚ plan tau) ≤ℚ 0ℚ
  bound_at h = joint_bound_at (bound_joint m model plan tau h)

  pub at_bound : (inside : List Fraction) → Admits m inside → length plan ≡ column_count m →
      ((u : List Fraction) → Admits m u → (i : ℕ) → i < length (matrices m)
      → form_at m i 1ℚ u (plan_vector 1ℚ plan tau) ≤ℚ 0ℚ) →
      HasBound m plan tau
  at_bound inside some fits h =
      joint_bound m model plan tau inside (admits_jointly m model inside some) (at_joint_bound fits h)

  some_form : (es : List Expression) (i : ℕ) (u : List Fraction) → Each (IsLinear m) es →
      length u ≡ length m.parameters → length plan ≡ column_count m →
      IfSome (slice_get es i) (λ e. value m (plan ++ tau ∷ []) u e ≤ℚ 0ℚ) ↔
      (sum_at (matrix_at (map (matrix_of m) es) i) 1ℚ u (plan_vector 1ℚ plan tau) ≤ℚ 0ℚ)
  some_form [] i u linear hu fits = (λ h. Q.le_refl_ℚ 0ℚ, λ h. tt)
  some_form (e ∷ es) zero u linear hu fits = (
    sum_in m e u (plan ++ tau ∷ []) linear.0 hu (columns_count fits),
    sum_out m e u (plan ++ tau ∷ []) linear.0 hu
        (columns_count fits),
  )
  some_form (e ∷ es) (suc i) u linear hu fits = some_form es i u linear.1 hu fits

  pub form_law : (i : ℕ) (u : List Fraction) → length u ≡ length m.parameters → length plan ≡ column_count m →
      FormHolds m i u plan tau ↔ (form_at m i 1ℚ u (plan_vector 1ℚ plan tau) ≤ℚ 0ℚ)
  form_law i u hu fits = some_form (forms m) i u (forms_linear m model) hu fits

  pub bound_law : (inside : List Fraction) → Admits m inside → HasBound m plan tau ↔
      ((length plan ≡ column_count m)
      × ((u : List Fraction) → Admits m u → (i : ℕ) → form_at m i 1ℚ u (plan_vector 1ℚ plan tau) ≤ℚ 0ℚ))
  bound_law inside some =
      (λ h. (h.columns, bound_at h), λ h. at_bound inside some h.0 (λ u admitted i k. h.1 u admitted i))
