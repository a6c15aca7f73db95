-- Amounts that bound a form in whole numbers cover it in the model's own words.
use Rattle.std.proofs.Common.{◌≡◌, ℕ, zero, suc, ◌+◌, ◌<◌, List, [], ◌∷◌, ◌++◌, length, refl, sym, ap, ap₂, ◌∙◌, subst, arith}
use lib.IntN.{ℤ, pos, ◌+ℤ◌, ◌*ℤ◌}
use lib.Signed.{◌<ℤ◌}
use Rattle.rob_algebra.specs.Fraction.{Fraction, of_int, inv_ℚ, ◌+ℚ◌, ◌*ℚ◌, ◌≤ℚ◌}
use Rattle.rob_algebra.specs.FractionLaws.{ℚ_ring, of_int-mul}
use Rattle.rob_algebra.specs.FractionLists.{AllNonneg}
use Rattle.rob_algebra.specs.Integer.{mul-zero, one-mul}
use Rattle.rob_algebra.specs.RingSolver as Solver
use Rattle.rob_algebra.specs.Polynomials.{lit, ◌:*◌, v0, v1, v2, v3, v4}
use Rattle.rob_linear.specs.Vectors.{sum_to}
use Rattle.rob_linear.specs.Vectors as V
use Rattle.rob_meaning.specs.Places.{0ℚ, 1ℚ, tabulate}
use Rattle.rob_meaning.specs.Vectors.{dot, scale, zeros, vec_mat}
use Rattle.rob_meaning.specs.RobustModel.{RobustModel, column_count}
use Rattle.rob_meaning.specs.Forms.{matrices, form_columns, constant_part, parameter_part, plan_vector}
use Rattle.rob_meaning.specs.SetRows.{set_rows, set_column_count, lift_count}
use Rattle.rob_meaning.specs.Certificates.{Cover}
use Rattle.rob_meaning.specs.Multipliers.{set_matrix, set_limits, Covers}
use Rattle.rob_meaning.specs.Proves.{amount_at, amounts_of, EachCovered}
use Rattle.rob_counterpart.specs.RobustProgram.{number_at}
use Rattle.rob_counterpart.specs.Counterpart.{robust_of}
use Rattle.rob_counterpart.proofs.Proving.WholeCertificates.{BoundsForms, constant_at, BoundsForm}
use Rattle.rob_counterpart.proofs.Pairs.QuotientLemmas.{over, over-add, over-zero, over-self, over_nonneg, over_le}
use Rattle.rob_counterpart.proofs.Pairs.TabulateLemmas.{length-tabulate, tabulate-same, tabulate-append, tabulate-ends, zeros-tabulate, scale-tabulate, over-dot, vec_mat-over}
use Rattle.rob_counterpart.proofs.Sets.ModelLemmas.{number_outside, set_matrix-tabulate, set_limits-tabulate, constant-over, parameters-over}
use Rattle.rob_counterpart.proofs.Proving.ScaledEndings.{pair, plan_of}
use Rattle.rob_counterpart.proofs.Proving.WholeCertificates.{multipliers_of}

pub nonneg_tabulate : (n : ℕ) (f : ℕ → Fraction) → ((k : ℕ) → k < n → 0ℚ ≤ℚ f k) → AllNonneg (tabulate n f)
nonneg_tabulate zero f h = tt
nonneg_tabulate (suc n) f h =
    (h zero (omega arith), nonneg_tabulate n (λ k. f (suc k)) (λ k l. h (suc k) (omega arith)))

-- a number over s, times k s over u
over-scaled : (k v s u : ℤ) → pos 0 <ℤ s → over (k *ℤ s) u *ℚ over v s ≡ over (k *ℤ v) u
over-scaled k v s u sp =
    ap (λ x. x *ℚ inv_ℚ (of_int u) *ℚ over v s) (of_int-mul k s)
    ∙ Solver.from_one ℚ_ring (of_int k ∷ of_int v ∷ of_int s ∷ inv_ℚ (of_int s) ∷ inv_ℚ (of_int u) ∷ [])
    (v0 :* v2 :* v4 :* (v1 :* v3)) (v0 :* v1 :* v4) (v0 :* v1 :* v4) (v2 :* v3) (lit (pos 1)) refl (over-self s sp)
    ∙ ap (λ x. x *ℚ inv_ℚ (of_int u)) (sym (of_int-mul k v))

-- amounts whose sums of the whole set rows are k times the form's numbers at z
module _ (m : RobustModel) (i : ℕ) (some : i < length (matrices m)) (k : ℤ) (z amounts : ℕ → ℤ)
    (sums : (c : ℕ) → c < set_column_count m
    → sum_to (length (set_rows m)) (λ r. amounts r *ℤ (robust_of m).left r c) ≡ k *ℤ number_at (robust_of m) i c z)
    (s u : ℤ) (sp : pos 0 <ℤ s) where
  pub columns-over : vec_mat (set_column_count m)
      (tabulate (length (set_rows m)) (λ r. over (amounts r) u)) (set_matrix m)
      ≡ scale (over (k *ℤ s) u) (parameter_part m i (tabulate (form_columns m) (λ j. over (z j) s)))
      ++ zeros (lift_count m.set_lines)
  columns-over =
      ap (λ (rows : List (List Fraction)).
      vec_mat (set_column_count m) (tabulate (length (set_rows m)) (λ r. over (amounts r) u)) rows)
      (set_matrix-tabulate m)
      ∙ vec_mat-over (length (set_rows m)) (set_column_count m) amounts (robust_of m).left u
      ∙ tabulate-same (set_column_count m)
      (λ c. over (sum_to (length (set_rows m)) (λ r. amounts r *ℤ (robust_of m).left r c)) u)
      (λ c. over (k *ℤ number_at (robust_of m) i c z) u) (λ c l. ap (λ v. over v u) (sums c l))
      ∙ tabulate-append (length m.parameters) (lift_count m.set_lines)
      (λ c. over (k *ℤ number_at (robust_of m) i c z) u)
      ∙ ap₂ (λ (xs ys : List Fraction). xs ++ ys) first second
    where
      first : tabulate (length m.parameters) (λ c. over (k *ℤ number_at (robust_of m) i c z) u)
          ≡ scale (over (k *ℤ s) u) (parameter_part m i (tabulate (form_columns m) (λ j. over (z j) s)))
      first =
          tabulate-same (length m.parameters) (λ c. over (k *ℤ number_at (robust_of m) i c z) u)
          (λ c. over (k *ℤ s) u *ℚ over (number_at (robust_of m) i c z) s)
          (λ c l. sym (over-scaled k (number_at (robust_of m) i c z) s u sp))
          ∙ sym (scale-tabulate (over (k *ℤ s) u) (length m.parameters) (λ c. over (number_at (robust_of m) i c z) s))
          ∙ ap (λ (xs : List Fraction). scale (over (k *ℤ s) u) xs) (sym (parameters-over m i some z s))

      second : tabulate (lift_count m.set_lines)
          (λ c. over (k *ℤ number_at (robust_of m) i (length m.parameters + c) z) u) ≡ zeros (lift_count m.set_lines)
      second =
          tabulate-same (lift_count m.set_lines)
          (λ c. over (k *ℤ number_at (robust_of m) i (length m.parameters + c) z) u) (λ c. 0ℚ)
          (λ c l. ap (λ v. over (k *ℤ v) u) (number_outside (robust_of m) i (length m.parameters + c) z (omega arith))
          ∙ ap (λ v. over v u) (mul-zero k) ∙ over-zero u)
          ∙ sym (zeros-tabulate (lift_count m.set_lines))

module _ (m : RobustModel) (i : ℕ) (some : i < length (matrices m)) (k : ℤ) (z amounts : ℕ → ℤ)
    (b : BoundsForm (robust_of m) i k z amounts) (s u : ℤ) (sp : pos 0 <ℤ s) (up : pos 0 <ℤ u) where
  constant : dot (tabulate (length (set_rows m)) (λ r. over (amounts r) u)) (set_limits m)
      +ℚ over (k *ℤ s) u *ℚ constant_part m i (tabulate (form_columns m) (λ j. over (z j) s)) ≤ℚ 0ℚ
  constant =
      let right : ℤ = V.dot (length (set_rows m)) amounts (robust_of m).right in
      let first : dot (tabulate (length (set_rows m)) (λ r. over (amounts r) u)) (set_limits m)
      ≡ over (V.dot (length (set_rows m)) amounts (robust_of m).right) u =
      ap (λ (xs : List Fraction). dot (tabulate (length (set_rows m)) (λ r. over (amounts r) u)) xs)
      (set_limits-tabulate m) ∙ over-dot (length (set_rows m)) amounts (robust_of m).right u in
      let second : over (k *ℤ s) u *ℚ constant_part m i (tabulate (form_columns m) (λ j. over (z j) s))
      ≡ over (k *ℤ constant_at (robust_of m) i z) u =
      ap (λ x. over (k *ℤ s) u *ℚ x) (constant-over m i some z s)
      ∙ over-scaled k (constant_at (robust_of m) i z) s u sp in
      subst (λ x. x ≤ℚ 0ℚ)
      (sym (ap₂ ◌+ℚ◌ first second
      ∙ sym (over-add (V.dot (length (set_rows m)) amounts (robust_of m).right)
      (k *ℤ constant_at (robust_of m) i z) u)))
      (subst (λ x.
      over (V.dot (length (set_rows m)) amounts (robust_of m).right +ℤ (k *ℤ constant_at (robust_of m) i z)) u ≤ℚ x)
      (over-zero u)
      (over_le (V.dot (length (set_rows m)) amounts (robust_of m).right +ℤ (k *ℤ constant_at (robust_of m) i z))
      (pos 0) u up b.constant))

  -- the form is covered at z / s, with k s / u, by the amounts over u
  pub covers-over : Covers m i (over (k *ℤ s) u) (tabulate (form_columns m) (λ j. over (z j) s))
      (tabulate (length (set_rows m)) (λ r. over (amounts r) u))
  covers-over = record {
    count = length-tabulate (length (set_rows m)) (λ r. over (amounts r) u);
    nonnegative =
        nonneg_tabulate (length (set_rows m)) (λ r. over (amounts r) u)
        (λ r l. over_nonneg (amounts r) u up (b.nonnegative r l));
    columns = columns-over m i some k z amounts b.columns s u sp;
    constant = constant;
  }

module _ (m : RobustModel) where
  -- a plan or a direction that is read as a vector over its scale
  pub vector-over : (first s : ℤ) (x : ℕ → ℤ)
      → plan_vector (over first s) (tabulate (column_count m) (λ j. over (pair x j) s))
      (over (pair x (column_count m)) s) ≡ tabulate (form_columns m) (λ j. over (plan_of first x j) s)
  vector-over first s x = sym (tabulate-ends (column_count m) (λ j. over (plan_of first x j) s))

  -- the list of covers gives each form and set row its multiplier over s
  abbrev pub HasAmountsOver : ℤ → (ℕ → ℤ) → List Cover → Type 0
  HasAmountsOver s x covers =
      (i r : ℕ) → i < length (matrices m) → r < length (set_rows m)
      → amount_at covers i r ≡ over (multipliers_of (robust_of m) i x r) s

  -- where every form is bounded, a list with these amounts covers every form
  pub each_covered : (first s : ℤ) (x : ℕ → ℤ) (covers : List Cover) → pos 0 <ℤ s
      → BoundsForms (robust_of m) (plan_of first x) (λ i. multipliers_of (robust_of m) i x) → HasAmountsOver s x covers
      → EachCovered m covers 1ℚ
      (plan_vector (over first s) (tabulate (column_count m) (λ j. over (pair x j) s))
      (over (pair x (column_count m)) s))
  each_covered first s x covers sp bounds has i some =
      let one : over (pos 1 *ℤ s) s ≡ 1ℚ = ap (λ v. over v s) (one-mul s) ∙ over-self s sp in
      let amounts : tabulate (length (set_rows m)) (λ r. over (multipliers_of (robust_of m) i x r) s)
      ≡ amounts_of m covers i =
      tabulate-same (length (set_rows m)) (λ r. over (multipliers_of (robust_of m) i x r) s) (λ r. amount_at covers i r)
      (λ r l. sym (has i r some l)) in
      let c : Covers m i (over (pos 1 *ℤ s) s) (tabulate (form_columns m) (λ j. over (plan_of first x j) s))
      (tabulate (length (set_rows m)) (λ r. over (multipliers_of (robust_of m) i x r) s)) =
      covers-over m i some (pos 1) (plan_of first x) (multipliers_of (robust_of m) i x) (bounds i some) s s sp sp in
      subst (λ (w : List Fraction). Covers m i 1ℚ w (amounts_of m covers i)) (sym (vector-over first s x))
      (subst (λ (w : List Fraction). Covers m i 1ℚ (tabulate (form_columns m) (λ j. over (plan_of first x j) s)) w)
      amounts
      (subst (λ w. Covers m i w (tabulate (form_columns m) (λ j. over (plan_of first x j) s))
      (tabulate (length (set_rows m)) (λ r. over (multipliers_of (robust_of m) i x r) s))) one c))
