-- The places of set conditions, and the tests of one parameter's declared bounds.
use Rattle.std.specs.Prelude.{ℕ, List}
use Rattle.rob_algebra.specs.Fraction.{Fraction}
use Rattle.rob_meaning.specs.RobustModel.{Parameter, RobustModel}
use Rattle.rob_meaning.specs.SetConditions.{bounds_of}
use Rattle.rob_model.specs.declared.place.Place.{Place}
use Rattle.rob_model.specs.declared.place.Place.TheVariants as At
use Rattle.rob_check.specs.Conditions.{set_tests}
use Rattle.rob_check.specs.Verdicts.{Condition}
use Rattle.rob_check.specs.declared.scenario.Taken.{Taken}
use Rattle.rob_check.specs.declared.scenario.Taken.TheVariants.{Inside, Item}

-- the place of a set condition at the scenario `inside`, or at an item's vector
abbrev pub taken_place : Taken → ℕ → Place
taken_place Inside k = At.Inside k
taken_place (Item i) k = At.Item i k

-- the declared bounds of parameter k, taken s times, the first having number i
abbrev pub bound_tests : ℕ → RobustModel → (ℕ → Place) → Fraction → List Fraction → ℕ → ℕ → Parameter → List Condition
bound_tests limit m place s p i k d = set_tests limit m place s p i (bounds_of k d)
