-- What is asked of a model's cuts, the rules on both, and why there is no split model.
use Rattle.std.specs.Prelude.{◌≡◌, ◌≢◌, ◌<◌, ◌≤◌, ◌⊎◌, ℕ, List, [], Option, Some, None}
use Rattle.rob_cells.specs.declared.error.CellsErr.{CellsErr}
use Rattle.rob_cells.specs.declared.error.CellsErr.TheVariants.{Rule, Memory}
use Rattle.rob_meaning.specs.RobustModel.{RobustModel}
use Rattle.rob_model.specs.Limits.{IsWithinLimits}
use Rattle.rob_pieces.specs.Cuts.{AreCuts, Cut}
use Rattle.rob_pieces.specs.SplitModel.{split_model}
use Rattle.rob_pieces.specs.SplitNames.{HasGoodNames}

-- the cuts are 1 to 3 by number, and cuts of the model's set
pub record CanSplit (count : ℕ) (m : RobustModel) (cuts : List Cut) : Type 0 where
  pub some : 0 < count
  pub few : count ≤ 3
  pub are_cuts : AreCuts m cuts

-- the model has no named set; the split model's declared names are distinct and short, and it is within the limits
pub record KeepsRules (m : RobustModel) (cuts : List Cut) : Type 0 where
  pub alone : m.sets ≡ []
  pub names : HasGoodNames (split_model m cuts)
  pub limits : IsWithinLimits (split_model m cuts)

-- the rule is the first that is broken: 51, where the model has a named set; 53, where it has none, and two declared
-- names of the split model are equal or one is over 32 bytes; 54, where these are kept, and the split model passes a
-- limit on the size of models
abbrev pub BreaksRule : RobustModel → List Cut → ℕ → Type 0
BreaksRule m cuts rule =
    ((rule ≡ 51) × (m.sets ≢ []))
    ⊎ (((rule ≡ 53) × ((m.sets ≡ []) × (HasGoodNames (split_model m cuts) → ⊥)))
    ⊎ ((rule ≡ 54) × ((m.sets ≡ []) × (HasGoodNames (split_model m cuts)
    × (IsWithinLimits (split_model m cuts) → ⊥)))))

-- the first broken rule, if there is one
abbrev pub IsFirstBroken : RobustModel → List Cut → Option ℕ → Type 0
IsFirstBroken m cuts None = KeepsRules m cuts
IsFirstBroken m cuts (Some rule) = BreaksRule m cuts rule

-- each error with what stands behind it; memory is free where the model has no named set
abbrev pub HasCause : RobustModel → List Cut → CellsErr → Type 0
HasCause m cuts (Rule rule) = BreaksRule m cuts rule
HasCause m cuts Memory = m.sets ≡ []
