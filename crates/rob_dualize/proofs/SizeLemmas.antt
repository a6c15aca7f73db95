-- A model within the limits has a counterpart of few rows and columns; so the places at which its numbers are read,
-- form after form, are small, and lie within the numbers.
use Rattle.std.proofs.Common.{◌≡◌, ℕ, ◌+◌, ◌-◌, ◌*◌, ◌≤◌, length, ap, ◌∙◌, arith, suc, ◌<◌, ◌^◌, List, Fits, w32, w64}
use Rattle.std.proofs.Math.Nat.{le-mul_of_pos_right}
use Rattle.std.proofs.lemmas.List.{length-map}
use Rattle.rob_meaning.specs.Forms.{matrix_of, forms}
use Rattle.rob_meaning.specs.RobustModel.{RobustModel}
use Rattle.rob_meaning.specs.SetRows.{set_rows}
use Rattle.rob_meaning.proofs.Naming.NameLemmas.{length-form_names, length-set_row_names}
use Rattle.rob_model.specs.Limits.{IsWithinLimits}
use Rattle.rob_model.specs.declared.group.Kind.TheVariants.{Form, SetRow}
use Rattle.rob_model.proofs.NameCountLemmas.{kind_few}
use Rattle.rob_sets.specs.SetForm.{IsSetForm, cleared_row}
use Rattle.rob_sets.specs.declared.set_form.SetForm.{SetForm}
use Rattle.rob_elab.specs.Forms.{IsForms}
use Rattle.rob_elab.specs.declared.forms.Forms.{Forms}
use Rattle.rob_counterpart.specs.Reform.{block, constant_row, positive_row, negative_row}
use Rattle.rob_dualize.specs.Wholes.{wholes, counterpart_of, IsFew, wholes_in, FitsSolver}
use Rattle.std.specs.Prelude.{slice_index_or}
use Rattle.rob_algebra.specs.Fraction.{Fraction}
use Rattle.rob_counterpart.specs.RobustProgram.{RobustProgram}
use Rattle.rob_counterpart.proofs.Pairs.Blocks.{block_in}
use Rattle.rob_dualize.specs.Numbers.{told}
use Rattle.rob_dualize.specs.declared.elaborated.Elaborated.{Elaborated}
use Rattle.rob_dualize.proofs.MakingLemmas.{one_block, parameters_low, some_form}
use Rattle.rob_dualize.proofs.ReadingLemmas.{told_place}

-- fewer times as many
times_low : (a k b : ℕ) → a ≤ k → a * b ≤ k * b
times_low a k b l =
    let c : ℕ = k - a in
    let e : k ≡ a + (k - a) = omega arith in
    let d : (a + (k - a)) * b ≡ (a * b) + ((k - a) * b) = grind arith in
    let f : k * b ≡ (a + (k - a)) * b = ap (λ v. v * b) e in
    omega arith

pub few_within_limits : (m : RobustModel) (all : Forms) (set : SetForm) → IsWithinLimits m → IsForms m all
    → IsSetForm m set → IsFew (counterpart_of all set)
few_within_limits m all set limits f st =
    let n : length all.matrices ≡ length (forms m) = ap length f.matrices ∙ length-map (forms m) (matrix_of m) in
    let some : length all.matrices ≤ 5000 = omega (arith, kind_few m limits Form, length-form_names m) in
    let h : length set.rows ≡ length (set_rows m) = ap length st.rows ∙ length-map (set_rows m) (cleared_row m) in
    let rows : length set.rows ≤ 5000 = omega (arith, kind_few m limits SetRow, length-set_row_names m) in
    let columns : set.columns ≤ 160 = omega (arith, st.columns, limits.parameters, limits.members) in
    let decisions : all.columns ≤ 600 = omega (arith, f.columns, limits.columns) in
    let u : length all.matrices * length set.rows ≤ 5000 * length set.rows =
    times_low (length all.matrices) 5000 (length set.rows) some in
    let v : length all.matrices * block (wholes all set) ≤ 5000 * block (wholes all set) =
    times_low (length all.matrices) 5000 (block (wholes all set)) some in
    omega arith

-- ---- places, form after form
-- an index within a list that is read is one within the list itself
pub form_in : {A : Type 0} {read all : List A} → read ≡ all → {i : ℕ} → i < length read → i < length all
form_in e l = omega (arith, ap length e)

module _ {limit : ℕ} {model : Elaborated} (fits : FitsSolver limit model) where
  abbrev d : RobustProgram
  d = wholes_in model

  abbrev columns : ℕ
  columns = model.set.now.columns

  -- ---- the width of a form's rows
  width_low : suc (columns + columns) < 2 ^ 31
  width_low =
      omega (
        arith,
        fits.few,
        one_block d.forms (block d) (some_form model.forms.now model.set.now fits.elaborated),
      )

  pub double_fits : Fits w64 (2 * columns)
  double_fits = omega (arith, width_low)

  pub width_fits : Fits w64 (2 * columns + 1)
  width_fits = omega (arith, width_low)

  -- ---- the rows of form i
  module _ {i : ℕ} (of_form : i < d.forms) where
    row_low : (p : ℕ) → p < block d → (i * block d) + p < d.forms * block d
    row_low p l = block_in d.forms (block d) i p of_form l

    counted : i * (2 * columns + 1) ≡ i * block d
    counted = ap (λ v. i * v) (omega arith)

    place_low : (p : ℕ) → p < block d → (i * (2 * columns + 1)) + p < 2 ^ 31
    place_low p l = omega (arith, counted, row_low p l, fits.few)

    pub first_fits : Fits w64 (i * (2 * columns + 1))
    first_fits = omega (arith, place_low 0 (omega arith))

    pub constant_fits : Fits w64 (i * (2 * columns + 1) + 2 * columns)
    constant_fits = omega (arith, place_low (columns + columns) (omega arith))

    pub form_fits : Fits w32 i
    form_fits = omega (arith, fits.few, le-mul_of_pos_right {m = block d} d.forms (omega arith))

    -- the number at the row of the constant
    module _ {N : Type 0} (numbers : List N) (many : length numbers ≡ d.forms * block d) where
      pub constant_in : i * (2 * columns + 1) + 2 * columns < length numbers
      constant_in = omega (arith, many, counted, row_low (columns + columns) (omega arith))

      pub constant_told : (value : N → Fraction) (x : N)
          → x ≡ slice_index_or numbers (i * (2 * columns + 1) + 2 * columns) x
          → told value numbers (constant_row d i) ≡ value x
      constant_told value x is =
          told_place value numbers (i * (2 * columns + 1) + 2 * columns) (constant_row d i) x
          (omega (arith, counted)) constant_in is

    -- ---- those of set column c
    module _ {c : ℕ} (parameter_in : c < model.forms.now.params) where
      pub in_set : c < columns
      in_set = omega (arith, parameters_low model.forms.now model.set.now fits.elaborated)

      pub pair_fits : Fits w64 (2 * c)
      pair_fits = omega (arith, in_set, width_low)

      pub positive_fits : Fits w64 (i * (2 * columns + 1) + 2 * c)
      positive_fits = omega (arith, in_set, place_low (c + c) (omega (arith, in_set)))

      pub negative_fits : Fits w64 (i * (2 * columns + 1) + 2 * c + 1)
      negative_fits = omega (arith, in_set, place_low (suc (c + c)) (omega (arith, in_set)))

      module _ {N : Type 0} (numbers : List N) (many : length numbers ≡ d.forms * block d) where
        pub positive_in : i * (2 * columns + 1) + 2 * c < length numbers
        positive_in = omega (arith, many, counted, row_low (c + c) (omega (arith, in_set)))

        pub negative_in : i * (2 * columns + 1) + 2 * c + 1 < length numbers
        negative_in = omega (arith, many, counted, row_low (suc (c + c)) (omega (arith, in_set)))

        pub positive_told : (value : N → Fraction) (x : N)
            → x ≡ slice_index_or numbers (i * (2 * columns + 1) + 2 * c) x
            → told value numbers (positive_row d i c) ≡ value x
        positive_told value x is =
            told_place value numbers (i * (2 * columns + 1) + 2 * c) (positive_row d i c) x
            (omega (arith, counted)) positive_in is

        pub negative_told : (value : N → Fraction) (x : N)
            → x ≡ slice_index_or numbers (i * (2 * columns + 1) + 2 * c + 1) x
            → told value numbers (negative_row d i c) ≡ value x
        negative_told value x is =
            told_place value numbers (i * (2 * columns + 1) + 2 * c + 1) (negative_row d i c) x
            (omega (arith, counted)) negative_in is
