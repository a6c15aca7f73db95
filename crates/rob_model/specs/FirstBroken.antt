-- Which set condition a vector breaks first.
use Rattle.std.specs.Prelude.{◌≡◌, ℕ, List, take, Option, Some, None, slice_get}
use Rattle.rob_algebra.specs.Fraction.{Fraction}
use Rattle.rob_meaning.specs.Places.{Each}
use Rattle.rob_meaning.specs.RobustModel.{RobustModel}
use Rattle.rob_meaning.specs.SetConditions.{SetCondition, set_conditions, Holds, Meets}

-- the set condition of that number, taken s times, fails at the vector, and each one before it holds
pub record FailsFirst (m : RobustModel) (s : Fraction) (p : List Fraction) (k : ℕ) : Type 0 where
  pub condition : SetCondition
  pub number : slice_get (set_conditions m) k ≡ Some condition
  pub fails : Holds m s p condition → ⊥
  pub before : Each (Holds m s p) (take k (set_conditions m))

-- none where the vector meets all, and otherwise the number of the first that fails
abbrev pub IsFirstBroken : RobustModel → Fraction → List Fraction → Option ℕ → Type 0
IsFirstBroken m s p None = Meets m s p
IsFirstBroken m s p (Some k) = FailsFirst m s p k
