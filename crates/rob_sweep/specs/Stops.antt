-- Why a sweep stops, and what its ledger counts.
use Rattle.std.specs.Prelude.{◌≡◌, ◌⊎◌, ◌++◌, ℕ, suc, List, ◌∷◌, length, Option, Some, None, Result, IfErr}
use Rattle.rob_algebra.specs.Fraction.{Fraction}
use Rattle.rob_dualize.specs.Models.{IsWideIn}
use Rattle.rob_meaning.specs.RobustModel.{SetLine, RobustModel}
use Rattle.rob_model.specs.declared.place.Spot.{Spot}
use Rattle.rob_number.specs.Counts.{NeverFell, Rose}
use Rattle.rob_reach.specs.Sweeps.{IsBudgetAt, Rises, with_budget}
use Rattle.rob_sweep.specs.Answering.{AreWritten}
use Rattle.rob_sweep.specs.declared.answer.SweepStop.{SweepStop}
use Rattle.rob_sweep.specs.declared.answer.SweepStop.TheVariants.{Rule, Wide, Memory}

-- ---- rules

-- the statement is a budget, and the limits rise strictly
pub record KeepsRules (lines : List SetLine) (n : ℕ) (limits : List Fraction) : Type 0 where
  pub budget : IsBudgetAt lines n
  pub rises : Rises limits

-- the rule is the first that is broken: 81, where statement n doesn't exist or isn't a budget; 82, where it is one and
-- the limits don't rise strictly
abbrev pub BreaksRule : List SetLine → ℕ → List Fraction → ℕ → Type 0
BreaksRule lines n limits rule =
    ((rule ≡ 81) × (IsBudgetAt lines n → ⊥)) ⊎ ((rule ≡ 82) × (IsBudgetAt lines n × (Rises limits → ⊥)))

-- the first broken rule, if there is one
abbrev pub IsFirstBroken : List SetLine → ℕ → List Fraction → Option ℕ → Type 0
IsFirstBroken lines n limits None = KeepsRules lines n limits
IsFirstBroken lines n limits (Some rule) = BreaksRule lines n limits rule

-- why a model has no other limit there: rule 81 is broken; memory is refused only where it is kept
abbrev pub IsBudgetStop : List SetLine → ℕ → SweepStop → Type 0
IsBudgetStop lines n (Rule rule) = (rule ≡ 81) × (IsBudgetAt lines n → ⊥)
IsBudgetStop lines n (Wide number spot) = ⊥
IsBudgetStop lines n Memory = IsBudgetAt lines n

-- ---- wide numbers

-- the spot is wide for the model with that limit of the list, counted from 1; nothing is wide when the models with the
-- limits before it are written in whole numbers
pub record IsWideAtLimit (limit : ℕ) (m : RobustModel) (n : ℕ) (limits : List Fraction) (number : ℕ) (spot : Spot)
    : Type 0 where
  pub before : List Fraction
  pub here : Fraction
  pub after : List Fraction
  pub order : limits ≡ before ++ here ∷ after
  pub counted : number ≡ suc (length before)
  pub written_before : AreWritten limit m n before
  pub wide : IsWideIn limit (with_budget m n here) spot

-- why the model with the limit of that number has no answer: a number is wide; memory is free
abbrev pub IsLimitStop : ℕ → RobustModel → ℕ → SweepStop → Type 0
IsLimitStop limit m number (Rule rule) = ⊥
IsLimitStop limit m number (Wide other spot) = (other ≡ number) × IsWideIn limit m spot
IsLimitStop limit m number Memory = Unit {0}

-- each stop with what stands behind it; memory is free where the rules are kept
abbrev pub HasCause : ℕ → RobustModel → ℕ → List Fraction → SweepStop → Type 0
HasCause limit m n limits (Rule rule) = BreaksRule m.set_lines n limits rule
HasCause limit m n limits (Wide number spot) = KeepsRules m.set_lines n limits
    × IsWideAtLimit limit m n limits number spot
HasCause limit m n limits Memory = KeepsRules m.set_lines n limits

-- ---- the ledger

-- what a stop has counted of wide results: none for a broken rule, at least one for a wide number
abbrev pub CountsSweepStop : ℕ → ℕ → SweepStop → Type 0
CountsSweepStop before now (Rule rule) = now ≡ before
CountsSweepStop before now (Wide number spot) = Rose before now
CountsSweepStop before now Memory = Unit {0}

-- neither count fell, and that of wide results is as the stop tells
pub record CountsSweep {S T : Type 0} (ops_of wides_of : S → ℕ) (before now : S) (result : Result T SweepStop)
    : Type 0 where
  pub never_fell : NeverFell ops_of wides_of before now
  pub stopped : IfErr result (CountsSweepStop (wides_of before) (wides_of now))
