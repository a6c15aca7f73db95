-- Certificates, as data: what a solver hands out, so that its answer can be checked without it.
-- Multipliers: Schrijver, Theory of Linear and Integer Programming (1986), chapter 7.
use Rattle.std.specs.Prelude.{◌≡◌, ◌<◌, ◌⊎◌, ℕ, List}
use Rattle.rob_algebra.specs.Fraction.{Fraction}

-- what a certificate claims
pub data Status : Type 0 where
  optimal infeasible unbounded : Status

-- an amount of a set row, which helps to cover a form; both are given by their numbers
pub record Cover : Type 0 where
  pub form : ℕ
  pub set_row : ℕ
  pub amount : Fraction

-- a cover stands before another: by form, then set row; so no form and set row have two
abbrev pub IsBefore : Cover → Cover → Type 0
IsBefore a b = (a.form < b.form) ⊎ ((a.form ≡ b.form) × (a.set_row < b.set_row))

-- a form with a weight, and where the form is taken: at a vector that is `base`
-- times a scenario, or, with base 0, a ray
pub record Item : Type 0 where
  pub form : ℕ
  pub weight : Fraction
  pub base : Fraction
  pub vector : List Fraction

-- a certificate: its status; the value, which is the optimum or the bound of an unbounded model's plan; the positive
-- number that the covers of the plan are taken with; an admitted scenario; the plan; a direction, and how far its bound
-- moves; the covers of the plan, and those of the direction, which are taken with 1; the items
pub record Certificate : Type 0 where
  pub status : Status
  pub value : Fraction
  pub scale : Fraction
  pub inside : List Fraction
  pub plan : List Fraction
  pub step : List Fraction
  pub step_bound : Fraction
  pub covers : List Cover
  pub holds : List Cover
  pub items : List Item
