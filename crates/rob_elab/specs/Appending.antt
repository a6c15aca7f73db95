-- Forms that are cleared and appended, one after another.
use Rattle.std.specs.Prelude.{ℕ, ℤ, List, [], ◌∷◌, length, Result}
use Rattle.rob_meaning.specs.Clearing.{cleared, entries}
use Rattle.rob_meaning.specs.Coefficients.{Table}
use Rattle.rob_meaning.specs.Expressions.{Expression}
use Rattle.rob_meaning.specs.Forms.{entries_of, matrix_of}
use Rattle.rob_meaning.specs.RobustModel.{RobustModel}
use Rattle.rob_model.specs.declared.place.Where.TheVariants.{Form}
use Rattle.rob_sets.specs.Appending.{AppendsOr}
use Rattle.rob_sets.specs.FirstWide as judge
use Rattle.rob_sets.specs.declared.error.ElabErr.{ElabErr}
use Rattle.rob_elab.specs.Forms.{MatrixFits, judged_from}

-- the matrices of forms are appended, the first of which has number `i`, or the call says why not
abbrev pub Appends : ℕ → RobustModel → ℕ → List Expression → List (List (List ℤ)) → List (List (List ℤ)) → ℕ → ℕ
    → Result (Unit {0}) ElabErr → Type 0
Appends limit m i forms old new before now result =
    AppendsOr (matrix_of m) (MatrixFits limit) limit m forms (judged_from m i forms) old new before now result

-- the matrix of a form with that table is appended, its clearing being judged, or the call says why not
abbrev pub AppendsTable : ℕ → RobustModel → Table → List (List (List ℤ)) → List (List (List ℤ)) → ℕ → ℕ
    → Result (Unit {0}) ElabErr → Type 0
AppendsTable limit m f old new before now result =
    AppendsOr (λ (g : Table). cleared (entries_of m g)) (MatrixFits limit) limit m (f ∷ [])
    (judge.clearing (Form (length old)) (entries (entries_of m f)) ∷ []) old new before now result
