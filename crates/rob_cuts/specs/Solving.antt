-- What the cutting-plane route answers for a model: a certificate that proves, read off where a run is finished, and
-- the rounds of that run; or why there is none.
-- Mutapcic and Boyd, Cutting-set methods for robust convex optimization with pessimizing oracles (2009).
use Rattle.std.specs.Prelude.{◌≡◌, ℕ, List, [], map, ⊤}
use Rattle.rob_meaning.specs.Certificates.{Certificate}
use Rattle.rob_meaning.specs.Places.{Each}
use Rattle.rob_meaning.specs.Proves.{Proves}
use Rattle.rob_meaning.specs.RobustModel.{RobustModel}
use Rattle.rob_meaning.specs.WellFormed.{IsModel}
use Rattle.rob_model.specs.declared.place.Spot.{Spot}
use Rattle.rob_sets.specs.declared.set_form.SetForm.{SetForm}
use Rattle.rob_elab.specs.declared.forms.Forms.{Forms}
use Rattle.rob_elab.specs.Elaborated.{AreElaborated}
use Rattle.rob_cert.specs.Shape.{HasShape}
use Rattle.rob_cert.specs.declared.ending.Stop.{Stop}
use Rattle.rob_cert.specs.declared.ending.Stop.TheVariants.{EmptySet, Wide, Memory}
use Rattle.rob_cert.specs.declared.trace.Round.{Round as Traced}
use Rattle.rob_dualize.specs.Solving.{HasScenario, IsLastScenario, TellsEmpty}
use Rattle.rob_dualize.specs.Wholes.{counterpart_in, IsFew}
use Rattle.rob_dualize.specs.declared.elaborated.Elaborated.{Elaborated}
use Rattle.rob_runs.specs.Readings.{IsReadOff}
use Rattle.rob_runs.specs.Runs.{Round, IsRun, trace_cuts, IsFinished}
use Rattle.rob_runs.specs.Spots.{RunSpot, set_row, IsWideInRun}
use Rattle.rob_cuts.specs.Places.{spot_told, IsRefusedAfter}
use Rattle.rob_cuts.specs.Rounds.{round_told, RoundFits}

-- the forms and the set rows are those of one well formed model, which is not told
pub record AreOfModel (limit : ℕ) (forms : Forms) (set : SetForm) : Type 0 where
  pub elaborated : AreElaborated limit forms set
  pub is_model : IsModel elaborated.model

-- they are so, and the rows and columns of their counterpart are as few as a solver takes
pub record FitsRoute (limit : ℕ) (model : Elaborated) : Type 0 where
  pub of_model : AreOfModel limit model.forms.now model.set.now
  pub open of_model use *
  pub few : IsFew (counterpart_in model)

-- the rounds are a run, which is finished; the certificate is read off there, proves, and has its shape
pub record IsSolution (m : RobustModel) (c : Certificate) (told : List Traced) : Type 0 where
  pub trace : List Round
  pub run : IsRun m trace
  pub rounds : told ≡ map round_told trace
  pub basis : List ℕ
  pub finished : IsFinished m (trace_cuts trace) basis c.status
  pub read : IsReadOff m (trace_cuts trace) basis c
  pub proves : Proves m c
  pub shape : HasShape m c
  pub inside : IsLastScenario m c.inside

-- the place belongs to the set's program, and no round comes before it; or some scenario is admitted
abbrev pub ComesAfterSet : RobustModel → List Round → RunSpot → Type 0
ComesAfterSet m trace (set_row basis i) = trace ≡ []
ComesAfterSet m trace other = HasScenario m

-- the rounds are a run, and the number at the place is wide in its next round; where it is one of a row, its program is
-- refused for the row
pub record IsWideAfterRounds (limit : ℕ) (m : RobustModel) (place : Spot) (told : List Traced) : Type 0 where
  pub trace : List Round
  pub rounds : told ≡ map round_told trace
  pub spot : RunSpot
  pub place_is : place ≡ spot_told spot
  pub wide : IsWideInRun limit m trace spot
  pub refused : IsRefusedAfter limit m (trace_cuts trace) spot
  pub after : ComesAfterSet m trace spot

-- each refusal with what stands behind it; memory is free
abbrev pub HasCause : ℕ → RobustModel → Stop → Type 0
HasCause limit m (EmptySet weights) = TellsEmpty limit m weights
HasCause limit m (Wide place trace) = IsWideAfterRounds limit m place trace.rounds
HasCause limit m Memory = ⊤

-- no number of the cuts of the rounds that are told before a wide number is over the limit
abbrev pub StopFits : ℕ → Stop → Type 0
StopFits limit (EmptySet weights) = ⊤
StopFits limit (Wide place trace) = Each (RoundFits limit) trace.rounds
StopFits limit Memory = ⊤
