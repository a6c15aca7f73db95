-- How large the numbers of a program's rows can become, and what is told of it for the two programs of a model.
use Rattle.std.specs.Prelude.{◌≡◌, ◌≢◌, ℕ, ◌<◌, ◌≤◌, leb, if◌then◌else◌, Option, Some, None}
use Rattle.rob_bounds.specs.Bounds.{IsOfSize, row_bound}
use Rattle.rob_linear.specs.Programs.{Program}
use Rattle.rob_meaning.specs.RobustModel.{RobustModel}
use Rattle.rob_counterpart.specs.Counterpart.{set_program, counterpart}
use Rattle.rob_dualize.specs.declared.bounds.ModelBounds.{ModelBounds}
use Rattle.rob_dualize.specs.declared.bounds.RowBound.{RowBound}

-- a is the greatest size of a number of the program, or 1 where that is less: the least number, at least 1, that none
-- exceeds
pub record IsGreatestSize (a : ℕ) (P : Program) : Type 0 where
  pub positive : 0 < a
  pub sized : IsOfSize a P
  pub least : (h : ℕ) → 0 < h → IsOfSize h P → a ≤ h

-- the number, or nothing where it is over the limit
abbrev pub up_to : ℕ → ℕ → Option ℕ
up_to limit number = if leb number limit then Some number else None

-- the number of the program's rows, the greatest size of its numbers, and the bound on the entries of the rows of its
-- bases, ((m + 1) * a) ^ (m + 1), or nothing where that is over the limit
pub record TellsBound (limit : ℕ) (P : Program) (told : RowBound) : Type 0 where
  pub rows : told.rows ≡ P.m
  pub greatest : IsGreatestSize told.greatest P
  pub bound : told.bound ≡ up_to limit (row_bound P.m told.greatest)

-- those of the program of the model's set, and of its counterpart
pub record TellsBounds (limit : ℕ) (m : RobustModel) (told : ModelBounds) : Type 0 where
  pub set : TellsBound limit (set_program m) told.set
  pub counterpart : TellsBound limit (counterpart m) told.counterpart

-- neither bound is over the limit
abbrev pub AreBothWithin : ModelBounds → Type 0
AreBothWithin told = (told.set.bound ≢ None) × (told.counterpart.bound ≢ None)
