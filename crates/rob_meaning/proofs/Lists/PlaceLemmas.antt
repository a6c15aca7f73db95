-- Lists, products of matrices and items, place by place.
use Rattle.std.proofs.Common.{sym, ◌∙◌, ap₂}
use Rattle.std.specs.Prelude.{◌≡◌, ℕ, List, [], ◌∷◌, map}
use Rattle.rob_algebra.specs.Fraction.{Fraction, ◌+ℚ◌}
use Rattle.rob_algebra.specs.FractionLaws.{ℚ_ring}
use Rattle.rob_algebra.specs.Lists.{dot, scale, vec_mat, Rows, length-scale, length-vec_mat}
use Rattle.rob_meaning.proofs.Proving.ItemLemmas.{cuts_shape}
pub use Rattle.rob_meaning.proofs.Lists.ListLemmas.{same_by_places, at-zeros, at-scale, at-plus_all, at-tabulate}
use Rattle.rob_meaning.proofs.Tables.MatrixLemmas.{matrix_rows}
use Rattle.rob_meaning.specs.Certificates.{Item}
use Rattle.rob_meaning.specs.Clearing.{fractions}
use Rattle.rob_meaning.specs.Forms.{form_columns, matrices, matrix_at}
use Rattle.rob_meaning.specs.Places.{at}
use Rattle.rob_meaning.specs.Proves.{combination, cut_of}
use Rattle.rob_meaning.specs.RobustModel.{RobustModel}

-- ---- matrices
-- the entries of the rows in column j
abbrev pub column : ℕ → List (List Fraction) → List Fraction
column j rows = map (λ (row : List Fraction). at row j) rows

-- y A, column by column
pub at-vec_mat : (n : ℕ) (ys : List Fraction) (rows : List (List Fraction)) (j : ℕ) → Rows ℚ_ring n rows →
    at (vec_mat ℚ_ring n ys rows) j ≡ dot ℚ_ring ys (column j rows)
at-vec_mat n [] rows j r = at-zeros n j
at-vec_mat n (y ∷ ys) [] j r = at-zeros n j
at-vec_mat n (y ∷ ys) (row ∷ rows) j r =
    at-plus_all (scale ℚ_ring y row) (vec_mat ℚ_ring n ys rows) j
    (length-scale ℚ_ring y row ∙ r.0 ∙ sym (length-vec_mat ℚ_ring n ys rows r.1))
    ∙ ap₂ ◌+ℚ◌ (at-scale y row j) (at-vec_mat n ys rows j r.1)

-- ---- items
-- an item's form at its base and vector, in column j
pub at-cut : (m : RobustModel) (item : Item) (j : ℕ) →
    at (cut_of m item) j ≡ dot ℚ_ring (item.base ∷ item.vector)
    (column j (fractions (matrix_at (matrices m) item.form)))
at-cut m item j =
    at-vec_mat (form_columns m) (item.base ∷ item.vector) (fractions (matrix_at (matrices m) item.form)) j
    (matrix_rows m item.form)

-- the items' sum in column j
pub at-combination : (m : RobustModel) (items : List Item) (j : ℕ) →
    at (combination m items) j ≡ dot ℚ_ring (map (λ (i : Item). i.weight) items) (column j (map (cut_of m) items))
at-combination m items j =
    at-vec_mat (form_columns m) (map (λ (i : Item). i.weight) items) (map (cut_of m) items) j (cuts_shape m items)
