-- What the program's data stand for, and what the steps of the check ask of them.
use Rattle.std.specs.Prelude.{◌≡◌, ℕ, suc, ◌<◌, ◌+◌, ℤ, List, [], ◌∷◌, length, map, nat_eq, if◌then◌else◌, Option, Some, None}
use Rattle.rob_algebra.specs.Fraction.{Fraction, of_int}
use Rattle.rob_cert.specs.Shape.{HasShape}
use Rattle.rob_cert.specs.View.{certificate_of, cover_of}
use Rattle.rob_elab.specs.Elaborated.{IsElaborated}
use Rattle.rob_meaning.specs.Certificates as meaning
use Rattle.rob_meaning.specs.Forms.{matrix_at, plan_vector}
use Rattle.rob_meaning.specs.Places.{Each, at, InOrder}
use Rattle.rob_model.specs.Valid.{IsValid}
use Rattle.rob_model.specs.View.{robust}
use Rattle.rob_sets.specs.declared.set_form.SetRow.{SetRow}
use Rattle.rob_check.specs.Covers
use Rattle.rob_check.specs.declared.covering.Covering.{Covering}
use Rattle.rob_check.specs.declared.given.Given.{Given}
use Rattle.rob_meaning.specs.Certificates.{IsBefore}

-- what is covered, with its scale, its vector and its multipliers
abbrev pub covering_of : {N : Type 0} → (N → Fraction) → Covering N → Covers.Covering
covering_of value g = record {
  covered = g.covered;
  scale = value g.scale;
  vector = plan_vector (value g.first) (map value g.columns.now) (value g.bound);
  covers = map (cover_of value) g.covers.now;
}

-- an item's form is there, and has a row for the base and for each number of the vector
pub record TakesForm (forms : List (List (List ℤ))) (item : meaning.Item) : Type 0 where
  pub form : item.form < length forms
  pub rows : length (matrix_at forms item.form) ≡ suc (length item.vector)

-- each row of a form has a number for the constant, for each decision column and for tau
abbrev pub HasColumns : ℕ → List (List ℤ) → Type 0
HasColumns n form = Each (λ row. length row ≡ n + 2) form

-- the set rows of the multipliers are there
abbrev pub NameRows : ℕ → List meaning.Cover → Type 0
NameRows count covers = Each (λ (c : meaning.Cover). c.set_row < count) covers

-- and they stand in order of form, then set row
pub record AreOrdered (count : ℕ) (covers : List meaning.Cover) : Type 0 where
  pub rows : NameRows count covers
  pub ordered : InOrder IsBefore covers

-- how many multipliers of form i stand in front
abbrev pub run : ℕ → List meaning.Cover → ℕ
run i [] = 0
run i (c ∷ cs) = if nat_eq c.form i then suc (run i cs) else 0

-- the number of a set row in a set column, or, with none, its right side
abbrev pub row_entry : SetRow → Option ℕ → Fraction
row_entry row (Some k) = at (map of_int row.g) k
row_entry row None = of_int row.h

-- what the check is given: a model, its forms and its set rows, and a certificate of its shape
pub record IsGiven {N : Type 0} (value : N → Fraction) (limit : ℕ) (given : Given N) : Type 0 where
  pub valid : IsValid value given.model.now
  pub elaborated : IsElaborated limit (robust value given.model.now) given.forms.now given.set.now
  pub open elaborated use *
  pub shape : HasShape (robust value given.model.now) (certificate_of value given.cert.now)
