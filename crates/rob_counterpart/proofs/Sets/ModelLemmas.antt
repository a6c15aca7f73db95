-- The whole numbers of a model by place: its set rows and the matrices of its forms, and a form's numbers at a plan.
use Rattle.std.proofs.Common.{◌≡◌, ℕ, zero, suc, ◌+◌, ◌<◌, ◌≤◌, List, [], ◌∷◌, map, length, length-append, refl, sym, ap, ap₂, ◌∙◌, subst, arith}
use Rattle.std.proofs.lemmas.List.{length-map}
use Rattle.std.specs.Prelude.{slice_index_or}
use lib.IntN.{ℤ, pos, ◌*ℤ◌}
use Rattle.rob_algebra.specs.Fraction.{Fraction, of_int}
use Rattle.rob_algebra.specs.FractionLaws.{ℚ_ring}
use Rattle.rob_algebra.specs.Lists.{Rows}
use Rattle.rob_algebra.specs.Integer.{zero-mul}
use Rattle.rob_linear.specs.Vectors as V
use Rattle.rob_linear.proofs.LinearPrograms.Sums.{sum_ext, sum_zero}
use Rattle.rob_meaning.specs.Places.{tabulate}
use Rattle.rob_meaning.specs.Vectors.{mat_vec}
use Rattle.rob_meaning.specs.RobustModel.{RobustModel}
use Rattle.rob_meaning.specs.Clearing.{fractions, whole_at}
use Rattle.rob_meaning.specs.Forms.{matrices, matrix_at, form_rows, form_columns, numbers_at, constant_part, parameter_part, head_of, tail_of}
use Rattle.rob_meaning.specs.SetRows.{SetRow, set_rows, set_column_count, lift_count, coefficients, row_denominator, whole_row, whole_limit}
use Rattle.rob_meaning.specs.Multipliers.{set_matrix, set_limits}
use Rattle.rob_meaning.proofs.Tables.MatrixLemmas.{matrix_height, matrix_rows}
use Rattle.rob_counterpart.specs.RobustProgram.{RobustProgram, entry, number_at}
use Rattle.rob_counterpart.specs.Counterpart.{robust_of}
use Rattle.rob_counterpart.proofs.Pairs.QuotientLemmas.{over}
use Rattle.rob_counterpart.proofs.Positions.ReformPlaces.{where_less, where_not_less}
use Rattle.rob_counterpart.proofs.Pairs.TabulateLemmas.{length-tabulate, tabulate-same, mat_vec-over, row-tabulate, matrix-tabulate}
use Rattle.rob_counterpart.proofs.Proving.WholeCertificates.{constant_at}

-- ---- the entries of a form at set columns
pub entry_inside : (d : RobustProgram) (i c j : ℕ) → c < d.parameters → entry d i c j ≡ d.form i (suc c) j
entry_inside d i c j l = where_less c d.parameters (d.form i (suc c) j) (pos 0) l

pub entry_outside : (d : RobustProgram) (i c j : ℕ) → d.parameters ≤ c → entry d i c j ≡ pos 0
entry_outside d i c j l = where_not_less c d.parameters (d.form i (suc c) j) (pos 0) l

pub number_inside : (d : RobustProgram) (i c : ℕ) (z : ℕ → ℤ) → c < d.parameters
    → number_at d i c z ≡ V.dot (suc (suc d.decisions)) (d.form i (suc c)) z
number_inside d i c z l =
    sum_ext (suc (suc d.decisions)) (λ j. entry d i c j *ℤ z j) (λ j. d.form i (suc c) j *ℤ z j)
    (λ j jl. ap (λ v. v *ℤ z j) (entry_inside d i c j l))

pub number_outside : (d : RobustProgram) (i c : ℕ) (z : ℕ → ℤ) → d.parameters ≤ c → number_at d i c z ≡ pos 0
number_outside d i c z l =
    sum_zero (suc (suc d.decisions)) (λ j. entry d i c j *ℤ z j)
    (λ j jl. ap (λ v. v *ℤ z j) (entry_outside d i c j l) ∙ zero-mul (z j))

module _ (m : RobustModel) where
  -- ---- the set rows
  length-whole_row : (r : SetRow) → length (whole_row m r) ≡ set_column_count m
  length-whole_row r =
      length-map (coefficients m r) (whole_at (row_denominator m r))
      ∙ length-append (tabulate (length m.parameters) r.on_parameters) (tabulate (lift_count m.set_lines) r.on_lifts)
      ∙ ap₂ ◌+◌ (length-tabulate (length m.parameters) r.on_parameters)
      (length-tabulate (lift_count m.set_lines) r.on_lifts)

  rows_shape : (rs : List SetRow) → Rows ℚ_ring (set_column_count m) (fractions (map (whole_row m) rs))
  rows_shape [] = tt
  rows_shape (r ∷ rs) = (length-map (whole_row m r) of_int ∙ length-whole_row r, rows_shape rs)

  rows_fused : (rs : List SetRow) → map (λ (r : SetRow). map of_int (whole_row m r)) rs
      ≡ fractions (map (whole_row m) rs)
  rows_fused [] = refl
  rows_fused (r ∷ rs) = ap (λ (xs : List (List Fraction)). map of_int (whole_row m r) ∷ xs) (rows_fused rs)

  limits_fused : (rs : List SetRow) → map (λ (r : SetRow). of_int (whole_limit m r)) rs
      ≡ map of_int (map (whole_limit m) rs)
  limits_fused [] = refl
  limits_fused (r ∷ rs) = ap (λ (xs : List Fraction). of_int (whole_limit m r) ∷ xs) (limits_fused rs)

  pub set_matrix-tabulate : set_matrix m
      ≡ tabulate (length (set_rows m)) (λ r. tabulate (set_column_count m) (λ c. of_int ((robust_of m).left r c)))
  set_matrix-tabulate =
      rows_fused (set_rows m)
      ∙ matrix-tabulate (map (whole_row m) (set_rows m)) (length (set_rows m)) (set_column_count m)
      (length-map (set_rows m) (whole_row m)) (rows_shape (set_rows m))

  pub set_shape : Rows ℚ_ring (set_column_count m) (set_matrix m)
  set_shape =
      subst (λ (rows : List (List Fraction)). Rows ℚ_ring (set_column_count m) rows) (sym (rows_fused (set_rows m)))
      (rows_shape (set_rows m))

  pub set_limits-tabulate : set_limits m ≡ tabulate (length (set_rows m)) (λ r. of_int ((robust_of m).right r))
  set_limits-tabulate =
      limits_fused (set_rows m)
      ∙ row-tabulate (map (whole_limit m) (set_rows m)) (length (set_rows m))
      (length-map (set_rows m) (whole_limit m))

  -- the row of that number has a number for each set column
  row_width : (rs : List SetRow) (r : ℕ) → r < length rs
      → length (slice_index_or (map (whole_row m) rs) r []) ≡ set_column_count m
  row_width [] r l = absurd (omega arith)
  row_width (x ∷ rs) zero l = length-whole_row x
  row_width (x ∷ rs) (suc r) l = row_width rs r (omega arith)

  pub set_row-tabulate : (r : ℕ) → r < length (set_rows m)
      → map of_int (slice_index_or (map (whole_row m) (set_rows m)) r [])
      ≡ tabulate (set_column_count m) (λ c. of_int ((robust_of m).left r c))
  set_row-tabulate r l =
      row-tabulate (slice_index_or (map (whole_row m) (set_rows m)) r []) (set_column_count m)
      (row_width (set_rows m) r l)

  -- ---- the forms
  module _ (i : ℕ) (some : i < length (matrices m)) where
    pub form_matrix-tabulate : fractions (matrix_at (matrices m) i)
        ≡ tabulate (form_rows m) (λ k. tabulate (form_columns m) (λ j. of_int ((robust_of m).form i k j)))
    form_matrix-tabulate =
        matrix-tabulate (matrix_at (matrices m) i) (form_rows m) (form_columns m)
        (sym (length-map (matrix_at (matrices m) i) (map of_int)) ∙ matrix_height m i some) (matrix_rows m i)

    numbers-tabulate : (z : ℕ → ℤ) (s : ℤ)
        → numbers_at (matrix_at (matrices m) i) (tabulate (form_columns m) (λ j. over (z j) s))
        ≡ tabulate (form_rows m) (λ k. over (V.dot (form_columns m) ((robust_of m).form i k) z) s)
    numbers-tabulate z s =
        ap (λ (rows : List (List Fraction)). mat_vec rows (tabulate (form_columns m) (λ j. over (z j) s)))
        form_matrix-tabulate
        ∙ mat_vec-over (form_rows m) (form_columns m) ((robust_of m).form i) z s

    pub constant-over : (z : ℕ → ℤ) (s : ℤ)
        → constant_part m i (tabulate (form_columns m) (λ j. over (z j) s)) ≡ over (constant_at (robust_of m) i z) s
    constant-over z s = ap head_of (numbers-tabulate z s)

    pub parameters-over : (z : ℕ → ℤ) (s : ℤ)
        → parameter_part m i (tabulate (form_columns m) (λ j. over (z j) s))
        ≡ tabulate (length m.parameters) (λ c. over (number_at (robust_of m) i c z) s)
    parameters-over z s =
        ap tail_of (numbers-tabulate z s)
        ∙ tabulate-same (length m.parameters) (λ c. over (V.dot (form_columns m) ((robust_of m).form i (suc c)) z) s)
        (λ c. over (number_at (robust_of m) i c z) s)
        (λ c l. ap (λ v. over v s) (sym (number_inside (robust_of m) i c z l)))
