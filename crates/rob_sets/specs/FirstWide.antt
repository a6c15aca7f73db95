-- What is judged when a set or the forms are written in whole numbers, in a stated order, and the first spot where a
-- number is wide. An expression is judged by the coefficients of its subexpressions; numbers that are cleared are
-- judged by their least common denominator and by the whole numbers that they become.
use Rattle.std.specs.Prelude.{◌≡◌, ℕ, ◌<◌, List, [], ◌∷◌, ◌++◌, ◌⊎◌, Bool, true, false}
use Rattle.rob_algebra.specs.Fraction.{Fraction}
use Rattle.rob_algebra.specs.Width.{IsWideWhole}
use Rattle.rob_meaning.specs.Clearing.{denominator, whole_at}
use Rattle.rob_meaning.specs.Expressions.{Expression}
use Rattle.rob_meaning.specs.Places.{Each}
use Rattle.rob_meaning.specs.RobustModel.{RobustModel}
use Rattle.rob_model.specs.declared.place.Spot.{Spot}
use Rattle.rob_model.specs.declared.place.Spot.TheVariants.{Coefficient, Clearing}
use Rattle.rob_model.specs.declared.place.Where.{Where}
use Rattle.rob_number.specs.Counts as counts
use Rattle.rob_sets.specs.Subexpressions.{subexpressions, HasWideCoefficient}
use Rattle.rob_sets.specs.declared.error.ElabErr.{ElabErr}
use Rattle.rob_sets.specs.declared.error.ElabErr.TheVariants as refused

-- some item of the list has the property
abbrev pub Some_of : {A : Type 0} → (A → Type 0) → List A → Type 0
Some_of P [] = ⊥
Some_of P (x ∷ xs) = P x ⊎ Some_of P xs

-- the least common denominator of the numbers is over the limit, or a number times it is
abbrev pub IsWideCleared : ℕ → List Fraction → Type 0
IsWideCleared limit numbers =
    (limit < denominator numbers) ⊎ Some_of (λ q. IsWideWhole limit (whole_at (denominator numbers) q)) numbers

-- what is judged: an expression that belongs to a form or a set statement, or the numbers of a form or a set row
pub data Judged : Type 0 where
  coefficients : (place : Where) (e : Expression) → Judged
  clearing : (place : Where) (numbers : List Fraction) → Judged

-- the spot that names it
abbrev pub spot_of : Judged → Spot
spot_of (coefficients place e) = Coefficient place
spot_of (clearing place numbers) = Clearing place

-- a number of it is wide
abbrev pub IsWideThere : ℕ → RobustModel → Judged → Type 0
IsWideThere limit m (coefficients place e) = Some_of (HasWideCoefficient limit m) (subexpressions e)
IsWideThere limit m (clearing place numbers) = IsWideCleared limit numbers

-- no number of the list is wide
abbrev pub NothingWide : ℕ → RobustModel → List Judged → Type 0
NothingWide limit m all = Each (λ j. IsWideThere limit m j → ⊥) all

-- the spot names the first of the list at which a number is wide
pub record IsFirstWide (limit : ℕ) (m : RobustModel) (all : List Judged) (spot : Spot) : Type 0 where
  pub before : List Judged
  pub here : Judged
  pub after : List Judged
  pub order : all ≡ before ++ here ∷ after
  pub none_before : NothingWide limit m before
  pub wide : IsWideThere limit m here
  pub named : spot_of here ≡ spot

-- why a call refuses: a number is wide, at the first such spot; or memory is refused
abbrev pub HasCause : ℕ → RobustModel → List Judged → ElabErr → Type 0
HasCause limit m all (refused.Wide spot) = IsFirstWide limit m all spot
HasCause limit m all refused.Memory = Unit {0}

-- the refusal is for width
abbrev pub is_wide : ElabErr → Bool
is_wide (refused.Wide spot) = true
is_wide refused.Memory = false

-- a refusal for width has raised the count of wide numbers
abbrev pub RoseIfWide : ℕ → ℕ → ElabErr → Type 0
RoseIfWide before now e = counts.RoseIfWide is_wide before now e
