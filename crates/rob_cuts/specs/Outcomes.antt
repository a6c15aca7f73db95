-- What a round leads to.
use Rattle.std.specs.Prelude.{◌≡◌, ℕ, ◌<◌, ◌^◌, List, length, Result, MatchResult, ⊤}
use Rattle.rob_algebra.specs.Fraction.{Fraction}
use Rattle.rob_meaning.specs.Certificates.{Certificate}
use Rattle.rob_meaning.specs.RobustModel.{RobustModel}
use Rattle.rob_meaning.specs.UncertaintySet.{Admits}
use Rattle.rob_number.specs.declared.lp_kind.LpKind.{LpKind}
use Rattle.rob_rows.specs.LinearPrograms.{program_of}
use Rattle.rob_rows.specs.declared.program.Lp.{Lp}
use Rattle.rob_simplex.specs.Solvers.{Solver, positions}
use Rattle.rob_cert.specs.Shape.{HasShape}
use Rattle.rob_cert.specs.View.{certificate_of}
use Rattle.rob_cert.specs.declared.trace.Round.{Round as Traced}
use Rattle.rob_cert.specs.declared.ending.Stop.{Stop}
use Rattle.rob_dualize.specs.Ending.{HasEnded}
use Rattle.rob_dualize.specs.Solving.{IsLastScenario}
use Rattle.rob_dualize.specs.Wholes.{HoldsOfEach}
use Rattle.rob_dualize.specs.declared.elaborated.Elaborated.{Elaborated}
use Rattle.rob_runs.specs.Cuts.{Cut}
use Rattle.rob_runs.specs.Readings.{IsReadOff}
use Rattle.rob_runs.specs.Runs.{Round, IsRound}
use Rattle.rob_runs.specs.Spots.{RunSpot, set_row, IsWideAfter}
use Rattle.rob_elab.specs.Forms.{IsForms}
use Rattle.rob_elab.specs.declared.forms.Forms.{Forms}
use Rattle.rob_meaning.specs.WellFormed.{IsModel}
use Rattle.rob_sets.specs.SetForm.{IsSetForm}
use Rattle.rob_sets.specs.declared.set_form.SetForm.{SetForm}
use Rattle.rob_worst.specs.Finders.{IsFinder}
use Rattle.rob_worst.specs.declared.finder.Finder.{Finder}
use Rattle.rob_cuts.specs.declared.round.Outcome.{Outcome}
use Rattle.rob_cuts.specs.declared.round.Outcome.TheVariants as outcome
use Rattle.rob_cuts.specs.Places.{spot_told, IsRefusedAfter}
use Rattle.rob_cuts.specs.Rounds.{round_told, cut_of, cuts_told, CutFits}
use Rattle.rob_cuts.specs.Stops.{StopsWith}

-- the solver's answer is true of the master, and it has few positions
pub record EndsMaster (master : Lp) (kind : LpKind) (s : Solver) : Type 0 where
  pub answer : HasEnded (program_of master) kind s
  pub few : positions s < 2 ^ 31

-- the certificate is read off where the run over these cuts is finished, and has its shape
pub record IsEnd (m : RobustModel) (cuts : List Cut) (c : Certificate) : Type 0 where
  pub basis : List ℕ
  pub read : IsReadOff m cuts basis c
  pub shape : HasShape m c
  pub admitted : Admits m c.inside
  pub inside : IsLastScenario m c.inside

-- the round comes next after these rounds, and is told; no number of its cut is over the limit
pub record IsNext (limit : ℕ) (m : RobustModel) (rounds : List Traced) (round : Traced) : Type 0 where
  pub next : Round
  pub is_round : IsRound m (cuts_told rounds) next
  pub told : round ≡ round_told next
  pub fits : CutFits limit (length m.parameters) (cut_of round)

-- the place is none of the set's program
abbrev pub IsOfRound : RunSpot → Type 0
IsOfRound (set_row basis i) = ⊥
IsOfRound other = ⊤

-- the number at the place is wide in the round that comes next, whose program, where it is one of a row, is refused for
-- the row
abbrev pub IsWideNext : ℕ → RobustModel → List Traced → Stop → Type 0
IsWideNext limit m rounds stop =
    StopsWith
    (λ place. (spot : RunSpot) × IsOfRound spot × (place ≡ spot_told spot)
    × IsWideAfter limit m (cuts_told rounds) spot × IsRefusedAfter limit m (cuts_told rounds) spot)
    stop

-- a further round, or the end
abbrev pub IsOutcome : {N : Type 0} → (N → Fraction) → ℕ → RobustModel → List Traced → Outcome N → Type 0
IsOutcome value limit m rounds (outcome.Cut round) = IsNext limit m rounds round
IsOutcome value limit m rounds (outcome.End cert) = IsEnd m (cuts_told rounds) (certificate_of value cert)

-- what the round behind these rounds leads to, of each well formed model whose forms and set rows these are
abbrev pub LeadsOn : {N : Type 0} → (N → Fraction) → ℕ → Elaborated → List Traced → Result (Outcome N) Stop → Type 0
LeadsOn value limit model rounds result =
    HoldsOfEach model.forms.now model.set.now
    (λ m. MatchResult result (IsOutcome value limit m rounds) (IsWideNext limit m rounds))

-- the scenario is admitted, and that of the last basis of the set's program
abbrev pub IsInside : {N : Type 0} → Forms → Finder N → List Fraction → Type 0
IsInside forms finder inside =
    (m : RobustModel) (set : SetForm) → IsModel m → IsForms m forms → IsSetForm m set → IsFinder set finder
    → Admits m inside × IsLastScenario m inside

-- the end of a run, whose certificate is made with such a scenario
abbrev pub IsEndWith : {N : Type 0} → (N → Fraction) → Forms → Finder N → (List Fraction → Certificate) → Outcome N
    → Type 0
IsEndWith value forms finder made (outcome.Cut round) = ⊥
IsEndWith value forms finder made (outcome.End cert) =
    (inside : List Fraction) × IsInside forms finder inside × (certificate_of value cert ≡ made inside)
