-- The endings of a search in the model's own words: the worst case of a form, or a ray along which it grows.
use Rattle.std.proofs.Common.{◌≡◌, ℕ, ◌+◌, ◌<◌, List, [], ◌∷◌, ◌++◌, length, refl, sym, ap, ap₂, ◌∙◌, subst, arith}
use Rattle.std.proofs.lemmas.Int.{ints}
use lib.IntN.{ℤ, pos, ◌*ℤ◌}
use lib.Signed.{◌<ℤ◌}
use Rattle.rob_algebra.specs.Fraction.{Fraction, of_int, ◌+ℚ◌, ◌*ℚ◌, ◌≤ℚ◌, ◌<ℚ◌}
use Rattle.rob_algebra.specs.FractionLaws as Q
use Rattle.rob_algebra.specs.FractionOrderLaws.{le_refl_ℚ, add_mono_ℚ}
use Rattle.rob_algebra.specs.FractionLaws.{ℚ_ring}
use Rattle.rob_algebra.specs.FractionLists.{AllNonneg}
use Rattle.rob_algebra.specs.Lists.{dot-zeros, dot-vec_mat}
use Rattle.rob_algebra.specs.Integer.{*ℤ_comm, mul-zero, mul-one, zero-mul}
use Rattle.rob_algebra.specs.Polynomials.{lit, ◌:+◌, ◌:*◌, v0, v1}
use Rattle.rob_linear.specs.Vectors.{Matrix, Columns, sum_to}
use Rattle.rob_linear.specs.Vectors as V
use Rattle.rob_linear.specs.Programs.{Program}
use Rattle.rob_linear.proofs.LinearPrograms.Sums.{sum_ext, sum_zero, sum_split}
use Rattle.rob_linear.specs.Optimality.{objective_at}
use Rattle.rob_linear.proofs.LinearPrograms.Scaling.{linear_form-scaled}
use Rattle.rob_meaning.specs.Places.{0ℚ, 1ℚ, tabulate}
use Rattle.rob_meaning.specs.Vectors.{dot, scale, zeros, mat_vec, vec_mat}
use Rattle.rob_meaning.specs.RobustModel.{RobustModel}
use Rattle.rob_meaning.specs.Forms.{matrices, matrix_at, form_columns, form_at, constant_part, parameter_part, numbers_at, head_of, tail_of}
use Rattle.rob_meaning.specs.Clearing.{fractions}
use Rattle.rob_meaning.specs.SetRows.{IsLifted, set_rows, set_column_count, lift_count}
use Rattle.rob_meaning.specs.SetConditions.{Meets}
use Rattle.rob_meaning.specs.UncertaintySet.{Admits}
use Rattle.rob_meaning.specs.WellFormed.{IsModel}
use Rattle.rob_meaning.specs.Multipliers.{set_matrix, set_limits, Covers}
use Rattle.rob_meaning.proofs.Conditions.AdmittedLemmas.{admits_meets}
use Rattle.rob_meaning.proofs.Tables.ClearingLemmas.{dot-append}
use Rattle.rob_meaning.proofs.Proving.CoverLemmas.{dot_le, rows_shape, rows_le, form_at-parts}
use Rattle.rob_meaning.proofs.Tables.MatrixLemmas.{dot-scale_right}
use Rattle.rob_meaning.proofs.Conditions.WholeRowLemmas.{lifted_of}
use Rattle.rob_counterpart.specs.RobustProgram.{number_at}
use Rattle.rob_counterpart.proofs.Proving.ScaledEndings.{pair}
use Rattle.rob_counterpart.specs.Endings.{slack_entries, objective_entry, OptimalEnding, UnboundedEnding}
use Rattle.rob_counterpart.specs.Counterpart.{robust_of, search_program}
use Rattle.rob_counterpart.specs.ReadCertificates.{scenario_read}
use Rattle.rob_counterpart.specs.WorstCases.{whole_plan, row_amounts, IsWorstCase, GrowsAlong}
use Rattle.rob_counterpart.proofs.Pairs.QuotientLemmas.{over, over_from, times-over, over-zero, over-one, over-self, over_nonneg, over_pos, over_same}
use Rattle.rob_counterpart.proofs.Pairs.TabulateLemmas.{length-tabulate, tabulate-same, dot-over, over-dot}
use Rattle.rob_counterpart.proofs.Sets.ModelLemmas.{number_outside, set_limits-tabulate, parameters-over}
use Rattle.rob_counterpart.proofs.Proving.CoverLemmas.{nonneg_tabulate, columns-over}
use Rattle.rob_counterpart.proofs.Proving.ItemLemmas.{meets_over}
use Rattle.rob_counterpart.proofs.Proving.EndingScales.{ScaledOptimal, ScaledUnbounded, optimal_scaled, unbounded_scaled}
use Rattle.rob_counterpart.proofs.Sets.SetLemmas.{search_is, set_cost}
use Rattle.rob_counterpart.proofs.Searching.SearchLemmas.{SearchDuals, search_duals, search_ray}
use Rattle.rob_counterpart.proofs.Sets.ScenarioLemmas.{scenario-over, over_admitted}
use Rattle.rob_counterpart.proofs.Proving.WholeCertificates.{constant_at, value_at, LiesInSet}

scale-one : (xs : List Fraction) → scale 1ℚ xs ≡ xs
scale-one [] = refl
scale-one (x ∷ xs) = ap₂ (λ y (ys : List Fraction). y ∷ ys) (Q.ℚ-one-mul x) (scale-one xs)

-- ---- the form at a whole plan
module _ (m : RobustModel) (i : ℕ) (some : i < length (matrices m)) (z : ℕ → ℤ) where
  plan-over : whole_plan m z ≡ tabulate (form_columns m) (λ j. over (z j) (pos 1))
  plan-over = tabulate-same (form_columns m) (λ j. of_int (z j)) (λ j. over (z j) (pos 1)) (λ j l. sym (over-one (z j)))

  parameters-whole : parameter_part m i (whole_plan m z)
      ≡ tabulate (length m.parameters) (λ c. of_int (number_at (robust_of m) i c z))
  parameters-whole =
      ap (parameter_part m i) plan-over ∙ parameters-over m i some z (pos 1)
      ∙ tabulate-same (length m.parameters) (λ c. over (number_at (robust_of m) i c z) (pos 1))
      (λ c. of_int (number_at (robust_of m) i c z)) (λ c l. over-one (number_at (robust_of m) i c z))

  -- its parameter part at a vector over a scale
  part-over : (p : ℕ → ℤ) (s : ℤ)
      → dot (parameter_part m i (whole_plan m z)) (tabulate (length m.parameters) (λ c. over (p c) s))
      ≡ over (V.dot (set_column_count m) p (λ c. number_at (robust_of m) i c z)) s
  part-over p s =
      ap (λ (xs : List Fraction). dot xs (tabulate (length m.parameters) (λ c. over (p c) s))) parameters-whole
      ∙ dot-over (length m.parameters) (λ c. number_at (robust_of m) i c z) p s
      ∙ ap (λ v. over v s) (sym whole)
    where
      whole : V.dot (set_column_count m) p (λ c. number_at (robust_of m) i c z)
          ≡ sum_to (length m.parameters) (λ c. number_at (robust_of m) i c z *ℤ p c)
      whole =
          let first : sum_to (length m.parameters) (λ c. p c *ℤ number_at (robust_of m) i c z)
          ≡ sum_to (length m.parameters) (λ c. number_at (robust_of m) i c z *ℤ p c) =
          sum_ext (length m.parameters) (λ c. p c *ℤ number_at (robust_of m) i c z)
          (λ c. number_at (robust_of m) i c z *ℤ p c) (λ c l. *ℤ_comm (p c) (number_at (robust_of m) i c z)) in
          let second : sum_to (lift_count m.set_lines)
          (λ c. p (length m.parameters + c) *ℤ number_at (robust_of m) i (length m.parameters + c) z) ≡ pos 0 =
          sum_zero (lift_count m.set_lines)
          (λ c. p (length m.parameters + c) *ℤ number_at (robust_of m) i (length m.parameters + c) z)
          (λ c l. ap (λ v. p (length m.parameters + c) *ℤ v)
          (number_outside (robust_of m) i (length m.parameters + c) z (omega arith))
          ∙ mul-zero (p (length m.parameters + c))) in
          sum_split (length m.parameters) (lift_count m.set_lines) (λ c. p c *ℤ number_at (robust_of m) i c z)
          ∙ omega (arith, ints)

  -- ---- amounts whose sums are the form's parameter part bound it in every scenario
  module _ (model : IsModel m) (amounts : List Fraction) (nonneg : AllNonneg amounts)
      (columns : vec_mat (set_column_count m) amounts (set_matrix m)
      ≡ parameter_part m i (whole_plan m z) ++ zeros (lift_count m.set_lines)) where
    lifted_bound : (u : List Fraction) → IsLifted m 1ℚ u
        → dot (parameter_part m i (whole_plan m z)) u ≤ℚ dot amounts (set_limits m)
    lifted_bound u a =
        subst (λ v. v ≤ℚ dot amounts (set_limits m)) left
        (subst (λ v. dot amounts (mat_vec (set_matrix m) (u ++ a.lifts)) ≤ℚ v)
        (dot-scale_right 1ℚ amounts (set_limits m) ∙ Q.ℚ-one-mul (dot amounts (set_limits m)))
        (dot_le amounts (mat_vec (set_matrix m) (u ++ a.lifts)) (scale 1ℚ (set_limits m)) nonneg
        (rows_le m 1ℚ (u ++ a.lifts) (set_rows m) a.rows)))
      where
        sizes : length (parameter_part m i (whole_plan m z)) ≡ length u
        sizes = ap length parameters-whole
            ∙ length-tabulate (length m.parameters) (λ c. of_int (number_at (robust_of m) i c z)) ∙ sym a.numbers

        left : dot amounts (mat_vec (set_matrix m) (u ++ a.lifts)) ≡ dot (parameter_part m i (whole_plan m z)) u
        left =
            sym (dot-vec_mat ℚ_ring (set_column_count m) amounts (set_matrix m) (u ++ a.lifts)
            (rows_shape m (set_rows m)))
            ∙ ap (λ (xs : List Fraction). dot xs (u ++ a.lifts)) columns
            ∙ dot-append (parameter_part m i (whole_plan m z)) (zeros (lift_count m.set_lines)) u a.lifts sizes
            ∙ ap (λ v. dot (parameter_part m i (whole_plan m z)) u +ℚ v)
            (dot-zeros ℚ_ring (lift_count m.set_lines) a.lifts)
            ∙ Q.ring (dot (parameter_part m i (whole_plan m z)) u ∷ []) (v0 :+ lit (pos 0)) v0 refl

    no_worse : (scenario : List Fraction)
        → dot amounts (set_limits m) ≡ dot (parameter_part m i (whole_plan m z)) scenario
        → (u : List Fraction) → Admits m u
        → form_at m i 1ℚ u (whole_plan m z) ≤ℚ form_at m i 1ℚ scenario (whole_plan m z)
    no_worse scenario peak u admitted =
        subst (λ v. v ≤ℚ form_at m i 1ℚ scenario (whole_plan m z)) (sym (form_at-parts m i some 1ℚ u (whole_plan m z)))
        (subst (λ v. 1ℚ *ℚ constant_part m i (whole_plan m z) +ℚ dot (parameter_part m i (whole_plan m z)) u ≤ℚ v)
        (sym (form_at-parts m i some 1ℚ scenario (whole_plan m z)))
        (add_mono_ℚ (1ℚ *ℚ constant_part m i (whole_plan m z)) (1ℚ *ℚ constant_part m i (whole_plan m z))
        (dot (parameter_part m i (whole_plan m z)) u) (dot (parameter_part m i (whole_plan m z)) scenario)
        (le_refl_ℚ (1ℚ *ℚ constant_part m i (whole_plan m z)))
        (subst (λ v. dot (parameter_part m i (whole_plan m z)) u ≤ℚ v) peak
        (lifted_bound u (lifted_of m model 1ℚ u (admits_meets m model u admitted))))))

-- ---- the two endings
module _ (m : RobustModel) (model : IsModel m) (i : ℕ) (some : i < length (matrices m)) (z : ℕ → ℤ)
    (own : Columns) (rows : Matrix) where
  abbrev P : Program
  P = search_program m i z

  module _ (x y : ℕ → Fraction) (en : OptimalEnding (search_program m i z) own rows x y)
      (q : ScaledOptimal (search_program m i z) own rows x y) where
    abbrev o : ℤ
    o = objective_entry P rows

    abbrev duals : ℕ → ℤ
    duals = slack_entries P rows

    said : SearchDuals (robust_of m) i z (objective_entry P rows) (slack_entries P rows) q.s (pair q.z)
    said = search_duals (robust_of m) i z P (search_is (robust_of m) i z) own rows q.s q.z q.scaled

    amounts-over : row_amounts m y
        ≡ tabulate (length (set_rows m)) (λ r. over (slack_entries P rows r) (objective_entry P rows))
    amounts-over =
        tabulate-same (length (set_rows m)) y
        (λ r. over (slack_entries P rows r) (objective_entry P rows)) (λ r l. q.duals r l)

    nonneg : AllNonneg (row_amounts m y)
    nonneg = subst AllNonneg (sym amounts-over)
        (nonneg_tabulate (length (set_rows m)) (λ r. over (slack_entries P rows r) (objective_entry P rows))
        (λ r l. over_nonneg (slack_entries P rows r) (objective_entry P rows) q.objective (said.nonnegative r l)))

    columns : vec_mat (set_column_count m) (row_amounts m y) (set_matrix m)
        ≡ parameter_part m i (whole_plan m z) ++ zeros (lift_count m.set_lines)
    columns =
        ap (λ (xs : List Fraction). vec_mat (set_column_count m) xs (set_matrix m)) amounts-over
        ∙ columns-over m i some o z duals said.columns (pos 1) o (omega (arith, ints))
        ∙ ap₂ (λ v (xs : List Fraction). scale v (parameter_part m i xs) ++ zeros (lift_count m.set_lines))
        (ap (λ v. over v o) (mul-one o) ∙ over-self o q.objective) (sym (plan-over m i some z))
        ∙ ap (λ (xs : List Fraction). xs ++ zeros (lift_count m.set_lines))
        (scale-one (parameter_part m i (whole_plan m z)))

    peak : dot (row_amounts m y) (set_limits m) ≡ dot (parameter_part m i (whole_plan m z)) (scenario_read m x)
    peak =
        ap₂ (λ (xs ys : List Fraction). dot xs ys) amounts-over (set_limits-tabulate m)
        ∙ over-dot (length (set_rows m)) duals (robust_of m).right o
        ∙ over_same (V.dot (length (set_rows m)) duals (robust_of m).right)
        (V.dot (set_column_count m) (pair q.z) (λ c. number_at (robust_of m) i c z)) o q.s
        q.objective q.scaled.point.scale
        (*ℤ_comm (V.dot (length (set_rows m)) duals (robust_of m).right) q.s ∙ sym said.peak
        ∙ *ℤ_comm o (V.dot (set_column_count m) (pair q.z) (λ c. number_at (robust_of m) i c z)))
        ∙ sym (ap (dot (parameter_part m i (whole_plan m z)))
        (scenario-over m P (search_is (robust_of m) i z).over_set x q.s q.z q.point)
        ∙ part-over m i some z (pair q.z) q.s)

    worst : IsWorstCase m i (whole_plan m z) (scenario_read m x) (row_amounts m y)
    worst = record {
      admitted = over_admitted m model P (search_is (robust_of m) i z).over_set own rows x en.basis
          en.ends.feasible en.point;
      worst = no_worse m i some z model (row_amounts m y) nonneg columns (scenario_read m x) peak;
      count = length-tabulate (length (set_rows m)) y;
      nonnegative = nonneg;
      columns = columns;
      peak = peak;
    }

  -- an optimal search has the worst case
  pub search_worst_case : (x y : ℕ → Fraction) → OptimalEnding (search_program m i z) own rows x y
      → IsWorstCase m i (whole_plan m z) (scenario_read m x) (row_amounts m y)
  search_worst_case x y en = worst x y en (optimal_scaled P own rows x y en)

  -- its value is the form's parameter part there
  pub search_value : (x y : ℕ → Fraction) → OptimalEnding (search_program m i z) own rows x y
      → objective_at (search_program m i z) x ≡ dot (parameter_part m i (whole_plan m z)) (scenario_read m x)
  search_value x y en = by (optimal_scaled P own rows x y en)
    where
      by : ScaledOptimal P own rows x y
          → objective_at P x ≡ dot (parameter_part m i (whole_plan m z)) (scenario_read m x)
      by q =
          over_from (objective_at P x) (V.dot P.n P.c q.z) q.s q.scaled.point.scale
          (linear_form-scaled P.n P.c x q.s q.z
          (λ j l. ap (λ v. of_int q.s *ℚ v) (q.point j (omega arith))
          ∙ times-over (q.z j) q.s q.scaled.point.scale))
          ∙ ap (λ v. over v q.s)
          (set_cost (robust_of m) P (search_is (robust_of m) i z).over_set (λ c. number_at (robust_of m) i c z) q.z
          (search_is (robust_of m) i z).cost)
          ∙ sym (ap (dot (parameter_part m i (whole_plan m z)))
          (scenario-over m P (search_is (robust_of m) i z).over_set x q.s q.z q.point)
          ∙ part-over m i some z (pair q.z) q.s)

  -- an unbounded one a ray along which the form grows
  pub search_grows : (column : ℕ) (x r : ℕ → Fraction) → UnboundedEnding (search_program m i z) own rows column x r
      → GrowsAlong m i (whole_plan m z) (scenario_read m r)
  search_grows column x r en = by (unbounded_scaled P own rows column x r en)
    where
      by : ScaledUnbounded P own rows column x r → GrowsAlong m i (whole_plan m z) (scenario_read m r)
      by q =
          shown (search_ray (robust_of m) i z P (search_is (robust_of m) i z) own rows column q.s q.z q.t q.w q.scaled)
        where
          read : scenario_read m r ≡ tabulate (length m.parameters) (λ c. over (pair q.w c) q.t)
          read = scenario-over m P (search_is (robust_of m) i z).over_set r q.t q.w q.move

          shown : LiesInSet (robust_of m) (pos 0) (pair q.w) × (pos 0 <ℤ value_at (robust_of m) i (pos 0) (pair q.w) z)
              → GrowsAlong m i (whole_plan m z) (scenario_read m r)
          shown h = record {
            is_ray = subst (λ (v : List Fraction). Meets m 0ℚ v) (sym read)
                (subst (λ v. Meets m v (tabulate (length m.parameters) (λ c. over (pair q.w c) q.t))) (over-zero q.t)
                (meets_over m (pos 0) q.t (pair q.w) q.scaled.move.scale h.0 model));
            grows =
                let part : ℤ = V.dot (set_column_count m) (pair q.w) (λ c. number_at (robust_of m) i c z) in
                let zero_part : pos 0 *ℤ constant_at (robust_of m) i z ≡ pos 0 =
                zero-mul (constant_at (robust_of m) i z) in
                let positive : pos 0 <ℤ V.dot (set_column_count m) (pair q.w) (λ c. number_at (robust_of m) i c z) =
                omega (arith, ints, h.1) in
                subst (λ v. 0ℚ <ℚ v)
                (sym (form_at-parts m i some 0ℚ (scenario_read m r) (whole_plan m z)
                ∙ Q.ring (constant_part m i (whole_plan m z)
                ∷ dot (parameter_part m i (whole_plan m z)) (scenario_read m r) ∷ [])
                (lit (pos 0) :* v0 :+ v1) v1 refl
                ∙ ap (dot (parameter_part m i (whole_plan m z))) read ∙ part-over m i some z (pair q.w) q.t))
                (over_pos (V.dot (set_column_count m) (pair q.w) (λ c. number_at (robust_of m) i c z)) q.t
                q.scaled.move.scale positive);
          }

-- ---- what is at most 0 at its worst case is covered
module _ (m : RobustModel) (i : ℕ) (some : i < length (matrices m)) where
  pub worst_covers : (z scenario amounts : List Fraction) → IsWorstCase m i z scenario amounts
      → form_at m i 1ℚ scenario z ≤ℚ 0ℚ
      → Covers m i 1ℚ z amounts
  worst_covers z scenario amounts w h = record {
    count = w.count;
    nonnegative = w.nonnegative;
    columns = w.columns
        ∙ ap (λ (xs : List Fraction). xs ++ zeros (lift_count m.set_lines)) (sym (scale-one (parameter_part m i z)));
    constant =
        subst (λ v. v ≤ℚ 0ℚ)
        (form_at-parts m i some 1ℚ scenario z
        ∙ Q.ring (constant_part m i z ∷ dot (parameter_part m i z) scenario ∷ []) (lit (pos 1) :* v0 :+ v1)
        (v1 :+ lit (pos 1) :* v0) refl
        ∙ ap (λ v. v +ℚ 1ℚ *ℚ constant_part m i z) (sym w.peak)) h;
  }

mat_vec-scale : (rows : List (List Fraction)) (c : Fraction) (z : List Fraction)
    → mat_vec rows (scale c z) ≡ scale c (mat_vec rows z)
mat_vec-scale [] c z = refl
mat_vec-scale (row ∷ rows) c z =
    ap₂ (λ x (xs : List Fraction). x ∷ xs) (dot-scale_right c row z) (mat_vec-scale rows c z)

head-scale : (c : Fraction) (xs : List Fraction) → head_of (scale c xs) ≡ c *ℚ head_of xs
head-scale c [] = Q.ring (c ∷ []) (lit (pos 0)) (v0 :* lit (pos 0)) refl
head-scale c (x ∷ xs) = refl

tail-scale : (c : Fraction) (xs : List Fraction) → tail_of (scale c xs) ≡ scale c (tail_of xs)
tail-scale c [] = refl
tail-scale c (x ∷ xs) = refl

-- what covers a form at a multiple of a plan covers it at the plan, that often
pub covers_scaled : (m : RobustModel) (i : ℕ) (s : Fraction) (z amounts : List Fraction)
    → Covers m i 1ℚ (scale s z) amounts
    → Covers m i s z amounts
covers_scaled m i s z amounts c =
    let numbers : List Fraction = numbers_at (matrix_at (matrices m) i) z in
    let e : numbers_at (matrix_at (matrices m) i) (scale s z) ≡ scale s (numbers_at (matrix_at (matrices m) i) z) =
    mat_vec-scale (fractions (matrix_at (matrices m) i)) s z in
    record {
      count = c.count;
      nonnegative = c.nonnegative;
      columns =
          c.columns
          ∙ ap (λ (xs : List Fraction). xs ++ zeros (lift_count m.set_lines))
          (scale-one (parameter_part m i (scale s z)) ∙ ap tail_of e
          ∙ tail-scale s (numbers_at (matrix_at (matrices m) i) z));
      constant =
          subst (λ v. dot amounts (set_limits m) +ℚ v ≤ℚ 0ℚ)
          (Q.ℚ-one-mul (constant_part m i (scale s z)) ∙ ap head_of e
          ∙ head-scale s (numbers_at (matrix_at (matrices m) i) z)) c.constant;
    }
