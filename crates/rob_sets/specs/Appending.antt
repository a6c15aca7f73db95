-- Lines in whole numbers, set rows or forms, that are cleared and appended one after another.
use Rattle.std.specs.Prelude.{◌≡◌, ℕ, suc, List, ◌++◌, map, Result, Ok, Err}
use Rattle.rob_algebra.specs.Fraction.{neg_ℚ}
use Rattle.rob_meaning.specs.Coefficients as meaning
use Rattle.rob_meaning.specs.Places.{Each}
use Rattle.rob_meaning.specs.RobustModel.{RobustModel}
use Rattle.rob_meaning.specs.SetRows as lifted
use Rattle.rob_sets.specs.FirstWide.{Judged, HasCause, NothingWide, RoseIfWide}
use Rattle.rob_sets.specs.SetForm.{RowFits, cleared_row}
use Rattle.rob_sets.specs.declared.error.ElabErr.{ElabErr}
use Rattle.rob_sets.specs.declared.set_form.SetRow.{SetRow}

-- a table as a set row: it is at most 0, its constant moved to the right, and column j + 1 is column t number j
abbrev pub row_of : meaning.Table → lifted.SetRow
row_of f = record { on_parameters = λ k. f (suc k) 0; on_lifts = λ j. f 0 (suc j); limit = neg_ℚ (f 0 0) }

-- lines are appended, each as what is made of it: that fits, and nothing that is judged for them is wide
pub record AppendsLines {A B : Type 0} (made : B → A) (Fits : A → Type 0) (limit : ℕ) (m : RobustModel)
    (lines : List B) (judged : List Judged)
    (old new : List A) : Type 0 where
  pub appended : new ≡ old ++ map made lines
  pub fit : Each Fits (map made lines)
  pub none_wide : NothingWide limit m judged

-- why they are not: the first spot of what is judged at which a number is wide, which the ledger counted; or memory
pub record StopsAt (limit : ℕ) (m : RobustModel) (judged : List Judged) (before now : ℕ) (e : ElabErr) : Type 0 where
  pub cause : HasCause limit m judged e
  pub rose : RoseIfWide before now e

-- the lines are appended, or the call says why not
abbrev pub AppendsOr : {A B : Type 0} → (B → A) → (A → Type 0) → ℕ → RobustModel → List B → List Judged → List A
    → List A → ℕ → ℕ
    → Result (Unit {0}) ElabErr → Type 0
AppendsOr made Fits limit m lines judged old new before now (Ok _) = AppendsLines made Fits limit m lines judged old new
AppendsOr made Fits limit m lines judged old new before now (Err e) = StopsAt limit m judged before now e

-- set rows are appended in whole numbers, or the call says why not
abbrev pub Appends : ℕ → RobustModel → List lifted.SetRow → List Judged → List SetRow → List SetRow → ℕ → ℕ
    → Result (Unit {0}) ElabErr → Type 0
Appends limit m rows judged old new before now result =
    AppendsOr (cleared_row m) (RowFits limit) limit m rows judged old new before now result
