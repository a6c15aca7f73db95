-- Forms and set rows of one model can be read at each place, and their numbers are the model's.
use Rattle.std.proofs.Common.{◌≡◌, ℕ, zero, suc, ◌-◌, ◌^◌, ◌<◌, ◌≤◌, List, [], ◌∷◌, map, length, sym, ap, ap₂, ◌∙◌, subst, arith}
use Rattle.std.proofs.lemmas.List.{length-map}
use Rattle.std.specs.Prelude.{slice_index_or}
use lib.IntN.{ℤ, nat_abs}
use Rattle.rob_algebra.specs.Fraction.{of_int}
use Rattle.rob_algebra.specs.FractionLaws.{ℚ_ring}
use Rattle.rob_algebra.specs.Lists.{Rows}
use Rattle.rob_linear.specs.Vectors.{at}
use Rattle.rob_meaning.specs.Clearing.{fractions}
use Rattle.rob_meaning.specs.Forms.{matrices, matrix_at, form_columns}
use Rattle.rob_meaning.specs.Places.{Each}
use Rattle.rob_meaning.specs.RobustModel.{RobustModel, Sense, minimise, maximise, column_count}
use Rattle.rob_meaning.specs.SetRows as meaning
use Rattle.rob_meaning.specs.SetRows.{set_rows, set_column_count, whole_row, whole_limit}
use Rattle.rob_meaning.proofs.Tables.MatrixLemmas.{matrix_height, matrix_rows}
use Rattle.rob_sets.specs.SetForm.{cleared_row, IsSetForm, RowFits, SetFits}
use Rattle.rob_sets.specs.declared.set_form.SetForm.{SetForm}
use Rattle.rob_sets.specs.declared.set_form.SetRow.{SetRow}
use Rattle.rob_model.specs.View.{sense_of}
use Rattle.rob_elab.specs.Elaborated.{AreElaborated}
use Rattle.rob_elab.specs.Forms.{FormsFit, IsForms, MatrixFits}
use Rattle.rob_elab.specs.declared.forms.Forms.{Forms}
use Rattle.rob_counterpart.specs.RobustProgram.{RobustProgram}
use Rattle.rob_counterpart.specs.Counterpart.{cell, sign_of, robust_of}
use Rattle.rob_counterpart.proofs.Sets.ModelLemmas.{set_shape}
use Rattle.rob_dualize.specs.SetProgram.{left_sides, right_sides}
use Rattle.rob_dualize.specs.Told.{CanBeTold}
use Rattle.rob_dualize.specs.Wholes.{wholes, counterpart_of, AreSound, IsFew, IsSound}
use Rattle.rob_dualize.proofs.SetProgramLemmas.{left_sides-cleared, right_sides-cleared, rights_within}

-- ---- the model's numbers
-- a robust program, from its parts
abbrev program : (forms parameters decisions set_rows set_columns : ℕ) (all : List (List (List ℤ)))
    (left : List (List ℤ)) (right : List ℤ) (sense : ℤ) → RobustProgram
program forms parameters decisions set_rows set_columns all left right sense = record {
  forms = forms;
  parameters = parameters;
  decisions = decisions;
  set_rows = set_rows;
  set_columns = set_columns;
  form = λ i k j. cell (matrix_at all i) k j;
  left = λ r c. cell left r c;
  right = at right;
  sense = sense;
}

pub wholes_are : (m : RobustModel) (forms : Forms) (set : SetForm) → IsForms m forms → IsSetForm m set
    → wholes forms set ≡ robust_of m
wholes_are m forms set f s =
    let ml : length forms.matrices ≡ length (matrices m) = ap length f.matrices in
    let sl : length set.rows ≡ length (set_rows m) = ap length s.rows ∙ length-map (set_rows m) (cleared_row m) in
    let l : left_sides set.rows ≡ map (whole_row m) (set_rows m) =
    ap left_sides s.rows ∙ left_sides-cleared m (set_rows m) in
    let r : right_sides set.rows ≡ map (whole_limit m) (set_rows m) =
    ap right_sides s.rows ∙ right_sides-cleared m (set_rows m) in
    ap₂ (λ v w. program v w forms.columns (length set.rows) set.columns forms.matrices (left_sides set.rows)
    (right_sides set.rows) (sign_of (sense_of forms.sense))) ml f.params
    ∙ ap₂ (λ v w. program (length (matrices m)) (length m.parameters) v w set.columns forms.matrices
    (left_sides set.rows) (right_sides set.rows) (sign_of (sense_of forms.sense))) f.columns sl
    ∙ ap₂ (λ v w. program (length (matrices m)) (length m.parameters) (column_count m) (length (set_rows m)) v w
    (left_sides set.rows) (right_sides set.rows) (sign_of (sense_of forms.sense))) s.columns f.matrices
    ∙ ap₂ (λ v w. program (length (matrices m)) (length m.parameters) (column_count m) (length (set_rows m))
    (set_column_count m) (matrices m) v w (sign_of (sense_of forms.sense))) l r
    ∙ ap (λ v. program (length (matrices m)) (length m.parameters) (column_count m) (length (set_rows m))
    (set_column_count m) (matrices m) (map (whole_row m) (set_rows m)) (map (whole_limit m) (set_rows m)) (sign_of v))
    f.sense

-- ---- lengths
row_length : (n : ℕ) (rows : List (List ℤ)) (k : ℕ) → Rows ℚ_ring n (fractions rows) → k < length rows
    → length (slice_index_or rows k []) ≡ n
row_length n [] k h l = absurd (omega arith)
row_length n (row ∷ rows) zero h l = sym (length-map row of_int) ∙ h.0
row_length n (row ∷ rows) (suc k) h l = row_length n rows k h.1 (omega arith)

row_width : (m : RobustModel) (n : ℕ) (rows : List meaning.SetRow) (r : ℕ)
    → Rows ℚ_ring n (map (λ (row : meaning.SetRow). map of_int (whole_row m row)) rows) → r < length rows
    → length (slice_index_or (map (whole_row m) rows) r []) ≡ n
row_width m n [] r h l = absurd (omega arith)
row_width m n (x ∷ rows) zero h l = sym (length-map (whole_row m x) of_int) ∙ h.0
row_width m n (x ∷ rows) (suc r) h l = row_width m n rows r h.1 (omega arith)

-- ---- sizes
pub at_small : (limit : ℕ) (row : List ℤ) → Each (λ a. nat_abs a ≤ limit) row → (j : ℕ) → nat_abs (at row j) ≤ limit
at_small limit [] h j = omega arith
at_small limit (x ∷ row) h zero = h.0
at_small limit (x ∷ row) h (suc j) = at_small limit row h.1 j

cell_small : (limit : ℕ) (rows : List (List ℤ)) → MatrixFits limit rows → (k j : ℕ) → nat_abs (cell rows k j) ≤ limit
cell_small limit [] h k j = omega arith
cell_small limit (row ∷ rows) h zero j = at_small limit row h.0 j
cell_small limit (row ∷ rows) h (suc k) j = cell_small limit rows h.1 k j

form_small : (limit : ℕ) (all : List (List (List ℤ))) → Each (MatrixFits limit) all → (i k j : ℕ)
    → nat_abs (cell (matrix_at all i) k j) ≤ limit
form_small limit [] h i k j = omega arith
form_small limit (a ∷ all) h zero k j = cell_small limit a h.0 k j
form_small limit (a ∷ all) h (suc i) k j = form_small limit all h.1 i k j

lefts_fit : (limit : ℕ) (rows : List SetRow) → Each (RowFits limit) rows → MatrixFits limit (left_sides rows)
lefts_fit limit [] h = tt
lefts_fit limit (r ∷ rows) h = (h.0.coefficients, lefts_fit limit rows h.1)

module _ (limit : ℕ) (forms : Forms) (set : SetForm) (h : FormsFit limit forms) (k : SetFits limit set) where
  pub form_fits : (i k j : ℕ) → nat_abs (cell (matrix_at forms.matrices i) k j) ≤ limit
  form_fits = form_small limit forms.matrices h

  pub left_fits : (r c : ℕ) → nat_abs (cell (left_sides set.rows) r c) ≤ limit
  left_fits = cell_small limit (left_sides set.rows) (lefts_fit limit set.rows k)

  pub right_fits : (r : ℕ) → nat_abs (at (right_sides set.rows) r) ≤ limit
  right_fits = at_small limit (right_sides set.rows) (rights_within limit set.rows k)

-- ---- both
module _ (forms : Forms) (set : SetForm) (one : AreElaborated (2 ^ 62 - 1) forms set) where
  pub forms_sound : AreSound forms
  forms_sound =
      let m : RobustModel = one.model in
      let e : forms.matrices ≡ matrices one.model = one.are_forms.matrices in
      let height : (i : ℕ) → i < length forms.matrices → length (matrix_at forms.matrices i) ≡ suc forms.params =
      (λ i l. ap (λ all. length (matrix_at all i)) e
      ∙ sym (length-map (matrix_at (matrices one.model) i) (map of_int))
      ∙ matrix_height one.model i (subst (λ (all : List (List (List ℤ))). i < length all) e l)
      ∙ ap suc (sym one.are_forms.params)) in
      record {
        rows = height;
        columns = λ i k l kl. ap (λ all. length (slice_index_or (matrix_at all i) k [])) e
            ∙ row_length (form_columns one.model) (matrix_at (matrices one.model) i) k (matrix_rows one.model i)
            (let g : length (matrix_at forms.matrices i) ≡ suc forms.params = height i l in
            subst (λ (all : List (List (List ℤ))). k < length (matrix_at all i)) e (omega arith))
            ∙ ap (λ n. suc (suc n)) (sym one.are_forms.columns);
        small = form_fits (2 ^ 62 - 1) forms set one.forms_fit one.set_fits;
      }

  pub set_sound : IsSound set
  set_sound =
      let l : left_sides set.rows ≡ map (whole_row one.model) (set_rows one.model) =
      ap left_sides one.is_set.rows ∙ left_sides-cleared one.model (set_rows one.model) in
      record {
        columns = λ r rl. ap (λ rows. length (slice_index_or rows r [])) l
            ∙ row_width one.model (set_column_count one.model) (set_rows one.model) r (set_shape one.model)
            (let e : length set.rows ≡ length (set_rows one.model) =
            ap length one.is_set.rows ∙ length-map (set_rows one.model) (cleared_row one.model) in omega arith)
            ∙ sym one.is_set.columns;
        small_left = left_fits (2 ^ 62 - 1) forms set one.forms_fit one.set_fits;
        small_right = right_fits (2 ^ 62 - 1) forms set one.forms_fit one.set_fits;
      }

pub sense_small : (limit : ℕ) (forms : Forms) → 1 ≤ limit → nat_abs (sign_of (sense_of forms.sense)) ≤ limit
sense_small limit forms l = by (sense_of forms.sense)
  where
    by : (s : Sense) → nat_abs (sign_of s) ≤ limit
    by minimise = l
    by maximise = l

-- numbers within a limit are within a greater one
pub elaborated_weaker : {limit : ℕ} (bigger : ℕ) (forms : Forms) (set : SetForm) → limit ≤ bigger
    → AreElaborated limit forms set → AreElaborated bigger forms set
elaborated_weaker {limit} bigger forms set l h = record {
  model = h.model;
  elaborated = record {
    are_forms = h.are_forms;
    is_set = h.is_set;
    forms_fit = matrices_weaker forms.matrices h.forms_fit;
    set_fits = rows_weaker set.rows h.set_fits;
  };
}
  where
    numbers_weaker : (xs : List ℤ) → Each (λ a. nat_abs a ≤ limit) xs → Each (λ a. nat_abs a ≤ bigger) xs
    numbers_weaker [] h = tt
    numbers_weaker (x ∷ xs) h = (let p : nat_abs x ≤ limit = h.0 in omega arith, numbers_weaker xs h.1)

    matrix_weaker : (xs : List (List ℤ)) → MatrixFits limit xs → MatrixFits bigger xs
    matrix_weaker [] h = tt
    matrix_weaker (x ∷ xs) h = (numbers_weaker x h.0, matrix_weaker xs h.1)

    matrices_weaker : (xs : List (List (List ℤ))) → Each (MatrixFits limit) xs → Each (MatrixFits bigger) xs
    matrices_weaker [] h = tt
    matrices_weaker (x ∷ xs) h = (matrix_weaker x h.0, matrices_weaker xs h.1)

    rows_weaker : (xs : List SetRow) → Each (RowFits limit) xs → Each (RowFits bigger) xs
    rows_weaker [] h = tt
    rows_weaker (x ∷ xs) h = (
      record {
        coefficients = numbers_weaker x.g h.0.coefficients;
        right_side = let p : nat_abs x.h ≤ limit = h.0.right_side in omega arith;
      },
      rows_weaker xs h.1,
    )

-- the counterpart of a model in whole numbers can be told, where it is as few as a solver takes
pub can_be_told : (limit : ℕ) (forms : Forms) (set : SetForm) → limit ≤ 4611686018427387903
    → AreElaborated limit forms set → IsFew (counterpart_of forms set) → CanBeTold forms set
can_be_told limit forms set l h few =
    let model = elaborated_weaker 4611686018427387903 forms set l h in
    record { sound_forms = forms_sound forms set model; sound_set = set_sound forms set model; few = few }
