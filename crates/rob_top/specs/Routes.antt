-- The two routes of `solve` and `prove`: by the robust counterpart, one linear program; or by the cutting-plane method,
-- in rounds. How each finds a certificate, which numbers can be wide on its way, and where its rounds are told.
-- Bertsimas, Dunning, Lubin, Reformulation versus cutting-planes for robust optimization (2016).
use Rattle.std.specs.Prelude.{◌≡◌, ℕ, List, [], ◌++◌, Result, MatchResult, IfOk, IfErr}
use Rattle.rob_algebra.specs.Fraction.{Fraction}
use Rattle.rob_cert.specs.Shape.{HasShape}
use Rattle.rob_cert.specs.View.{certificate_of}
use Rattle.rob_cert.specs.declared.certificate.Cert.{Cert}
use Rattle.rob_cert.specs.declared.ending.Stop.{Stop}
use Rattle.rob_cert.specs.declared.ending.Stop.TheVariants.{EmptySet, Wide, Memory}
use Rattle.rob_cert.specs.declared.trace.Round.{Round}
use Rattle.rob_cert.specs.declared.trace.Trace.{Trace}
use Rattle.rob_cuts.specs.Rounds.{RoundFits}
use Rattle.rob_cuts.specs.Solving.{IsSolution, IsWideAfterRounds, StopFits}
use Rattle.rob_dualize.specs.Solving.{CountsStop, IsLastScenario, IsReadAtEnd, IsWideOnPath, TellsEmpty}
use Rattle.rob_meaning.specs.Certificates.{Certificate}
use Rattle.rob_meaning.specs.Places.{Each}
use Rattle.rob_meaning.specs.Proves.{Proves}
use Rattle.rob_meaning.specs.RobustModel.{RobustModel}
use Rattle.rob_model.specs.declared.place.Spot.{Spot}
use Rattle.rob_report.specs.Rounds.{rounds_text}
use Rattle.rob_words.specs.declared.route.Route.{Route}
use Rattle.rob_words.specs.declared.route.Route.TheVariants.{Dual, Cuts}

-- how the certificate was found: it is read off the last basis of the counterpart, its scenario off that of the set's
-- program, and there are no rounds; or it is read off where a run of the cutting-plane method is finished, whose rounds
-- these are, its scenario likewise
abbrev pub IsFoundBy : Route → RobustModel → Certificate → List Round → Type 0
IsFoundBy Dual m c rounds = IsReadAtEnd m c × IsLastScenario m c.inside × (rounds ≡ [])
IsFoundBy Cuts m c rounds = IsSolution m c rounds

-- the number at the spot is wide: it is one of a row of a basis on the path of the set's program or of the counterpart,
-- and there are no rounds; or it is one of the set's program, or of the round that comes next after these. Where it is
-- one of a row, its program is refused for the row
abbrev pub IsWideBy : Route → ℕ → RobustModel → Spot → List Round → Type 0
IsWideBy Dual limit m spot rounds = IsWideOnPath limit m spot × (rounds ≡ [])
IsWideBy Cuts limit m spot rounds = IsWideAfterRounds limit m spot rounds

-- the same, whichever rounds come before it
abbrev pub IsWideOnWay : Route → ℕ → RobustModel → Spot → Type 0
IsWideOnWay Dual limit m spot = IsWideOnPath limit m spot
IsWideOnWay Cuts limit m spot = (rounds : List Round) × IsWideAfterRounds limit m spot rounds

-- a text, and behind it the rounds of the cutting-plane method
abbrev pub with_rounds : Route → RobustModel → List Round → List ℕ → List ℕ
with_rounds Dual m rounds text = text
with_rounds Cuts m rounds text = text ++ rounds_text m rounds

-- the certificate proves, has its shape, and was found so
pub record IsFound (way : Route) (m : RobustModel) (c : Certificate) (rounds : List Round) : Type 0 where
  pub proves : Proves m c
  pub shape : HasShape m c
  pub found : IsFoundBy way m c rounds

-- why there is none: no scenario is admitted, as the weights show; or a number is wide; memory is free
abbrev pub HasStopCause : Route → ℕ → RobustModel → Stop → Type 0
HasStopCause way limit m (EmptySet weights) = TellsEmpty limit m weights
HasStopCause way limit m (Wide spot trace) = IsWideBy way limit m spot trace.rounds
HasStopCause way limit m Memory = Unit {0}

-- what the route answers for the model, within the limit, and how often wide results were counted
pub record SolvesBy {N : Type 0} (way : Route) (value : N → Fraction) (limit : ℕ) (m : RobustModel) (before now : ℕ)
    (result : Result (Cert N × Trace) Stop) : Type 0 where
  pub found : IfOk result (λ answer. IsFound way m (certificate_of value answer.0) answer.1.rounds)
  pub stopped : IfErr result (HasStopCause way limit m)
  pub fits : MatchResult result (λ answer. Each (RoundFits limit) answer.1.rounds) (StopFits limit)
  pub counted : MatchResult result (λ _. now ≡ before) (CountsStop before now)
