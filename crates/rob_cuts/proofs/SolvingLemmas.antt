-- What the route answers, from what its steps answer.
use Rattle.std.proofs.Common.{◌≡◌, ℕ, ◌≤◌, List, [], refl, sym, subst, arith, Result, Ok, Err}
use Rattle.std.specs.Prelude.{MatchResult, IfOk}
use Rattle.rob_algebra.specs.Fraction.{Fraction}
use Rattle.rob_meaning.specs.Certificates.{Certificate}
use Rattle.rob_meaning.specs.Places.{Each}
use Rattle.rob_meaning.specs.RobustModel.{RobustModel}
use Rattle.rob_meaning.specs.WellFormed.{IsModel}
use Rattle.rob_model.specs.declared.place.Spot.{Spot}
use Rattle.rob_model.specs.declared.place.Spot.TheVariants as spot
use Rattle.rob_model.specs.declared.place.Program.TheVariants as program
use Rattle.rob_number.specs.declared.memory.Memory.{Memory as NoMemory}
use Rattle.rob_elab.specs.declared.forms.Forms.{Forms}
use Rattle.rob_sets.specs.SetForm.{IsSetForm}
use Rattle.rob_sets.specs.declared.set_form.SetForm.{SetForm}
use Rattle.rob_number.specs.Counts.{NeverFell}
use Rattle.rob_number.proofs.CountLemmas.{later}
use Rattle.rob_cert.specs.View.{certificate_of}
use Rattle.rob_cert.specs.declared.certificate.Cert.{Cert}
use Rattle.rob_cert.specs.declared.ending.Stop.{Stop}
use Rattle.rob_cert.specs.declared.ending.Stop.TheVariants.{EmptySet, Wide, Memory}
use Rattle.rob_cert.specs.declared.trace.Round.{Round as Traced}
use Rattle.rob_dualize.specs.Solving.{CountsStop}
use Rattle.rob_runs.specs.Cuts.{Cut}
use Rattle.rob_runs.specs.Readings.{IsReadOff}
use Rattle.rob_runs.specs.Runs.{Round, trace_cuts}
use Rattle.rob_runs.specs.Spots.{RunSpot, set_row, master_row, search_row, clearing, cost, cut_clearing, cut_sum, IsWideAfter}
use Rattle.rob_runs.proofs.Rounds.FinishedRuns.{read_off_finished}
use Rattle.rob_runs.proofs.Rounds.ProgressLemmas.{run_cuts}
use Rattle.rob_runs.proofs.Proving.RunCertificates.{read_off_proves}
use Rattle.rob_dualize.specs.SetSolving.{HasSetCause, IsWideInSet}
use Rattle.rob_dualize.specs.Solving.{HasScenario}
use Rattle.rob_dualize.specs.Wholes.{HoldsOfEach}
use Rattle.rob_cuts.specs.Places.{IsRefusedAfter}
use Rattle.rob_cuts.specs.Rounds.{cuts_told, RoundFits, TellsRun}
use Rattle.rob_cuts.specs.Solving.{AreOfModel, IsSolution, ComesAfterSet, IsWideAfterRounds, HasCause, StopFits}
use Rattle.rob_cuts.specs.Stops.{StopsWith, stop_after}
use Rattle.rob_cuts.specs.Outcomes.{IsEnd, IsOfRound, IsOutcome}
use Rattle.rob_cuts.specs.Runs.{IsRunSoFar}
use Rattle.rob_cuts.specs.declared.round.Outcome.{Outcome}
use Rattle.rob_cuts.specs.declared.round.Outcome.TheVariants as outcome
use Rattle.rob_cuts.specs.declared.run.Run.{Run}
use Rattle.rob_cuts.proofs.RunLemmas.{trace_is}
use Rattle.rob_cuts.proofs.StopLemmas.{IsWideThere}

-- ---- want of memory as a stop
pub or_stopped : {T : Type 0} (P : T → Type 0) (Q : Stop → Type 0) → Q Memory → (answer : Result T NoMemory)
    → IfOk answer P
    → (result : Result T Stop) → MatchResult result (λ x. answer ≡ Ok x) (λ stop. stop ≡ Memory)
    → MatchResult result P Q
or_stopped {T} P Q q answer h (Ok x) is = subst (λ (r : Result T NoMemory). IfOk r P) is h
or_stopped P Q q answer h (Err stop) is = subst Q (sym is) q

pub counts_stopped : {T : Type 0} (before now : ℕ) → now ≡ before
    → (answer : Result T NoMemory) (result : Result T Stop)
    → MatchResult result (λ x. answer ≡ Ok x) (λ stop. stop ≡ Memory)
    → MatchResult result (λ _. now ≡ before) (CountsStop before now)
counts_stopped before now e answer (Ok x) is = e
counts_stopped before now e answer (Err stop) is = subst (CountsStop before now) (sym is) (omega arith)

-- ---- the set's program
pub set_cause : (limit : ℕ) (m : RobustModel) (stop : Stop) → HasSetCause limit m stop → HasCause limit m stop
set_cause limit m (EmptySet weights) h = h
set_cause limit m (Wide place trace) h = by place h.0
  where
    by : (place : Spot) → IsWideInSet limit m place → IsWideAfterRounds limit m place trace.rounds
    by (spot.Dictionary program.Set basis p) w = record {
      trace = [];
      rounds = h.1;
      spot = set_row basis p;
      place_is = refl;
      wide = record { run = tt; wide = w.0 };
      refused = w.1;
      after = refl;
    }
    by other w = absurd w
set_cause limit m Memory h = tt

-- it tells no rounds
pub set_fits : {limit : ℕ} {forms : Forms} {set : SetForm} → AreOfModel limit forms set → (stop : Stop)
    → ((m : RobustModel) → IsModel m → IsSetForm m set → HasSetCause limit m stop) → StopFits limit stop
set_fits {limit = limit} one stop h = by stop (h one.elaborated.model one.is_model one.elaborated.is_set)
  where
    by : (stop : Stop) → HasSetCause limit one.elaborated.model stop → StopFits limit stop
    by (EmptySet weights) h = tt
    by (Wide place trace) h = subst (λ (rounds : List Traced). Each (RoundFits limit) rounds) (sym h.1) tt
    by Memory h = tt

-- ---- rounds
after_set : (m : RobustModel) (trace : List Round) (spot : RunSpot) → IsOfRound spot → HasScenario m
    → ComesAfterSet m trace spot
after_set m trace (set_row basis i) o n = absurd o
after_set m trace (master_row basis i) o n = n
after_set m trace (search_row by_step f basis i) o n = n
after_set m trace (clearing by_step) o n = n
after_set m trace (cost f k) o n = n
after_set m trace (cut_clearing f) o n = n
after_set m trace (cut_sum f j) o n = n

module _ (m : RobustModel) (rounds : List Traced) (t : TellsRun m rounds) where
  cause_is : (limit : ℕ) (stop : Stop) → HasScenario m → StopsWith (IsWideThere limit m (cuts_told rounds)) stop
      → HasCause limit m (stop_after stop rounds)
  cause_is limit (EmptySet weights) n h = absurd h
  cause_is limit (Wide place trace) n h = record {
    trace = t.trace;
    rounds = t.told;
    spot = h.0;
    place_is = h.2;
    wide = record {
      run = t.run;
      wide = subst (λ (cs : List Cut). IsWideAfter limit m cs h.0) (trace_is m rounds t)
          h.3;
    };
    refused = subst (λ (cs : List Cut). IsRefusedAfter limit m cs h.0) (trace_is m rounds t) h.4;
    after = after_set m t.trace h.0 h.1 n;
  }
  cause_is limit Memory n h = tt

  read_solution : IsModel m → (c : Certificate) → IsEnd m (cuts_told rounds) c → IsSolution m c rounds
  read_solution model c e =
      let read : IsReadOff m (trace_cuts t.trace) e.basis c =
      subst (λ (cs : List Cut). IsReadOff m cs e.basis c) (trace_is m rounds t) e.read in
      record {
        trace = t.trace;
        run = t.run;
        rounds = t.told;
        basis = e.basis;
        finished = read_off_finished m model c.inside e.admitted (trace_cuts t.trace) e.basis c read;
        read = read;
        proves = read_off_proves m model (trace_cuts t.trace) (run_cuts m t.trace t.run) e.basis c e.admitted read;
        shape = e.shape;
        inside = e.inside;
      }

-- of each model with these forms and set rows
module _ {limit : ℕ} {forms : Forms} {set : SetForm} {run : Run} (state : IsRunSoFar limit forms set run) where
  pub solution_is : {N : Type 0} (value : N → Fraction) {o : Outcome N} {cert : Cert N} → o ≡ outcome.End cert
      → HoldsOfEach forms set (λ m. IsOutcome value limit m run.rounds o)
      → HoldsOfEach forms set (λ m. IsSolution m (certificate_of value cert) run.rounds)
  solution_is value {cert = cert} is leads m model f st =
      read_solution m run.rounds (state.tells m model f st) model (certificate_of value cert)
      (subst (IsOutcome value limit m run.rounds) is (leads m model f st))

  pub cause_after : {end : Stop} (stop : Stop) → end ≡ stop_after stop run.rounds
      → ((m : RobustModel) → IsModel m → IsSetForm m set → HasScenario m)
      → HoldsOfEach forms set (λ m. StopsWith (IsWideThere limit m (cuts_told run.rounds)) stop)
      → HoldsOfEach forms set (λ m. HasCause limit m end)
  cause_after stop is some stops m model f st =
      subst (HasCause limit m) (sym is) (cause_is m run.rounds (state.tells m model f st) limit stop
      (some m model st) (stops m model f st))

  -- the rounds behind a stop fit, as those before it do
  pub fits_after : {end : Stop} (stop : Stop) → end ≡ stop_after stop run.rounds → StopFits limit end
  fits_after stop is = subst (StopFits limit) (sym is) (by stop)
    where
      by : (stop : Stop) → StopFits limit (stop_after stop run.rounds)
      by (EmptySet weights) = tt
      by (Wide place trace) = state.fits
      by Memory = tt

  -- it counts from where nothing has been counted since
  pub counts_after : {end : Stop} (stop : Stop) → end ≡ stop_after stop run.rounds → {a b : ℕ} → a ≡ b → (now : ℕ)
      → CountsStop a now stop → CountsStop b now end
  counts_after {end = end} stop is {a = a} same now h =
      subst (λ n. CountsStop n now end) same (subst (CountsStop a now) (sym is) (by stop h))
    where
      by : (stop : Stop) → CountsStop a now stop → CountsStop a now (stop_after stop run.rounds)
      by (EmptySet weights) h = h
      by (Wide place trace) h = h
      by Memory h = h

pub counts_rise : (before now : ℕ) (stop : Stop) → CountsStop before now stop → before ≤ now
counts_rise before now (EmptySet weights) h = omega (arith, h)
counts_rise before now (Wide place trace) h = omega (arith, h)
counts_rise before now Memory h = h

-- a stop counts from where nothing has been counted since
pub counts_since : {a b : ℕ} → a ≡ b → (now : ℕ) (stop : Stop) → CountsStop a now stop → CountsStop b now stop
counts_since same now stop h = subst (λ n. CountsStop n now stop) same h

-- behind a stop that is counted neither count fell
pub counts_stop : {S : Type 0} {ops wides : S → ℕ} {a b c : S} → NeverFell ops wides a b → ops c ≡ ops b
    → (stop : Stop) → CountsStop (wides b) (wides c) stop → NeverFell ops wides a c
counts_stop {wides = wides} {b = b} {c = c} before same stop h =
    later before (record { ops = omega (arith, same); wides = counts_rise (wides b) (wides c) stop h })
