-- A check none of whose numbers is wide: it accepts a certificate exactly where that proves, and else rejects it at the
-- first place whose condition fails.
use Rattle.std.specs.Prelude.{◌≡◌, ◌≢◌, ◌↔◌, ℕ, List, ◌∷◌, ◌++◌, true, false, Some, None}
use Rattle.rob_meaning.specs.Certificates.{Certificate}
use Rattle.rob_meaning.specs.Places.{Each}
use Rattle.rob_meaning.specs.Proves.{Proves}
use Rattle.rob_meaning.specs.RobustModel.{RobustModel}
use Rattle.rob_model.specs.declared.place.Place.{Place}
use Rattle.rob_check.specs.Conditions.{conditions_as, verdict_of}
use Rattle.rob_check.specs.Verdicts.{Condition}
use Rattle.rob_check.specs.declared.verdict.Verdict.TheVariants.{Accepted, Rejected}

-- no number that is computed for the condition is wide: it holds or it fails
abbrev pub IsNarrow : Condition → Type 0
IsNarrow c = c.holds ≢ None

-- the place is that of the first condition that fails: each before it holds
pub record IsFirstFailure (all : List Condition) (place : Place) : Type 0 where
  pub before : List Condition
  pub here : Condition
  pub after : List Condition
  pub order : all ≡ before ++ here ∷ after
  pub hold_before : Each (λ (c : Condition). c.holds ≡ Some true) before
  pub fails : here.holds ≡ Some false
  pub named : here.place ≡ place

module _ (limit : ℕ) (m : RobustModel) (c : Certificate) where
  -- no number of the certificate's check is wide
  abbrev pub NoneWide : Type 0
  NoneWide = Each IsNarrow (conditions_as limit m c.status c)

  -- of the certificate's conditions the first that fails is at this place
  abbrev pub IsFirstFailing : Place → Type 0
  IsFirstFailing place = IsFirstFailure (conditions_as limit m c.status c) place

  -- it is accepted exactly where it proves, and else rejected, at the first place whose condition fails
  pub record IsDecided : Type 0 where
    pub accepted : (verdict_of limit m c ≡ Accepted) ↔ Proves m c
    pub rejected : (Proves m c → ⊥) → (place : Place) × IsFirstFailing place × (verdict_of limit m c ≡ Rejected place)
