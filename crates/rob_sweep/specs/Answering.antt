-- What is answered for one model, and for the models of a sweep.
use Rattle.std.specs.Prelude.{◌≡◌, ◌<◌, ℕ, List, [], ◌∷◌, slice_get, Some}
use Rattle.rob_algebra.specs.Fraction.{Fraction}
use Rattle.rob_dualize.specs.Models.{IsWideIn}
use Rattle.rob_meaning.specs.Places.{Each}
use Rattle.rob_meaning.specs.RobustModel.{Sense, RobustModel, set_count}
use Rattle.rob_meaning.specs.UncertaintySet.{IsEmptyIn}
use Rattle.rob_reach.specs.Sweeps.{SweepAnswer, is_optimal, is_infeasible, is_unbounded, is_empty, GrowsHarder, with_budget}
use Rattle.rob_sets.specs.declared.error.ElabErr.{ElabErr}
use Rattle.rob_sets.specs.declared.error.ElabErr.TheVariants.{Wide, Memory}
use Rattle.rob_elab.specs.Written.{IsWritten}

-- one of the model's sets admits nothing
abbrev pub HasEmptySet : RobustModel → Type 0
HasEmptySet m = (S : ℕ) × (S < set_count m) × IsEmptyIn m S

-- an answer that the set is empty comes where one of the model's sets admits nothing
abbrev pub NamesEmpty : RobustModel → SweepAnswer → Type 0
NamesEmpty m (is_optimal v) = Unit {0}
NamesEmpty m is_infeasible = Unit {0}
NamesEmpty m is_unbounded = Unit {0}
NamesEmpty m is_empty = HasEmptySet m

-- each answer has the property for the model with its limit
abbrev pub EachAnswer : (RobustModel → SweepAnswer → Type 0) → RobustModel → ℕ → List Fraction → List SweepAnswer
    → Type 0
EachAnswer P m n [] [] = Unit {0}
EachAnswer P m n [] (a ∷ answers) = ⊥
EachAnswer P m n (g ∷ limits) [] = ⊥
EachAnswer P m n (g ∷ limits) (a ∷ answers) = P (with_budget m n g) a × EachAnswer P m n limits answers

-- of any two answers, an earlier and a later one, the later one is no easier
abbrev pub EachGrowsHarder : Sense → List SweepAnswer → Type 0
EachGrowsHarder sense answers =
    (i j : ℕ) → i < j → (a b : SweepAnswer) → slice_get answers i ≡ Some a → slice_get answers j ≡ Some b
    → GrowsHarder sense a b

-- nothing is wide when the models with these limits are written in whole numbers
abbrev pub AreWritten : ℕ → RobustModel → ℕ → List Fraction → Type 0
AreWritten limit m n limits = Each (λ g. IsWritten limit (with_budget m n g)) limits

-- ---- refusals

-- why a model has no answer: a number is wide; memory is free
abbrev pub HasCause : ℕ → RobustModel → ElabErr → Type 0
HasCause limit m (Wide spot) = IsWideIn limit m spot
HasCause limit m Memory = Unit {0}
