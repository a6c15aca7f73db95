-- What a route answers is the model's: spots, rounds; and what each of the two routes gives.
use Rattle.std.proofs.Common.{◌≡◌, ℕ, ◌<◌, List, [], ◌∷◌, length, map, Result, Ok, Err, IfOk, IfErr, sym, ◌∙◌, subst, arith, All}
use Rattle.std.proofs.lemmas.List.{length-map}
use Rattle.std.proofs.lemmas.List.Elements.{All-cons, All-nil, All-same}
use Rattle.std.specs.Prelude.{true, false, MatchResult}
use Rattle.rob_algebra.specs.Fraction.{Fraction, of_int}
use Rattle.rob_cert.specs.View.{certificate_of}
use Rattle.rob_cert.specs.declared.certificate.Cert.{Cert}
use Rattle.rob_cert.specs.declared.ending.Stop.{Stop}
use Rattle.rob_cert.specs.declared.ending.Stop.TheVariants as stop
use Rattle.rob_cert.specs.declared.trace.Round.{Round}
use Rattle.rob_cert.specs.declared.trace.Trace.{Trace}
use Rattle.rob_cuts.specs.Places.{IsRefusedAfter, spot_told}
use Rattle.rob_cuts.specs.Rounds.{RoundFits, round_told}
use Rattle.rob_cuts.specs.Solving as cuts
use Rattle.rob_dualize.specs.Solving as dual
use Rattle.rob_elab.specs.Forms.{IsForms}
use Rattle.rob_elab.specs.declared.forms.Forms.{Forms}
use Rattle.rob_meaning.specs.Certificates.{Certificate}
use Rattle.rob_meaning.specs.Forms.{forms}
use Rattle.rob_meaning.proofs.Tables.MatrixLemmas.{length-matrices}
use Rattle.rob_meaning.specs.Places.{Each}
use Rattle.rob_meaning.specs.RobustModel.{RobustModel}
use Rattle.rob_meaning.specs.UncertaintySet.{IsEmptySet}
use Rattle.rob_meaning.specs.WellFormed.{IsModel}
use Rattle.rob_model.specs.declared.place.Program.TheVariants as program
use Rattle.rob_model.specs.declared.place.Spot.{Spot}
use Rattle.rob_model.specs.declared.place.Spot.TheVariants as spot
use Rattle.rob_report.specs.Places.{IsSpotOf}
use Rattle.rob_report.specs.Rounds.{IsRoundOf}
use Rattle.rob_runs.proofs.Rounds.ProgressLemmas.{round_cut, run_cuts}
use Rattle.rob_runs.specs.Cuts.{IsCut}
use Rattle.rob_runs.specs.Runs.{IsRun, Round as RunRound, trace_cuts}
use Rattle.rob_runs.specs.Spots.{IsWideAfter, RunSpot, clearing, cost, cut_clearing, cut_sum, master_row, search_row, set_row}
use Rattle.rob_sets.specs.SetForm.{IsSetForm}
use Rattle.rob_sets.specs.declared.set_form.SetForm.{SetForm}
use Rattle.rob_top.proofs.Meaning.BeforeLemmas.{path_in_set}
use Rattle.rob_top.specs.Endings.{IsEmptyAnswer}
use Rattle.rob_top.specs.WorkStops.{IsStopOf}
use Rattle.rob_top.specs.Routes.{HasStopCause, IsFound, IsFoundBy, IsWideBy, IsWideOnWay, SolvesBy}
use Rattle.rob_commands.specs.declared.ended.Ended.TheVariants.{TooWide}
use Rattle.rob_words.specs.declared.route.Route.{Route}
use Rattle.rob_words.specs.declared.route.Route.TheVariants.{Dual, Cuts}

-- ---- rounds of a run
module _ (m : RobustModel) where
  rounds_named : (trace : List RunRound) → Each (IsCut m) (trace_cuts trace) → All (IsRoundOf m) (map round_told trace)
  rounds_named [] h = All-nil (IsRoundOf m)
  rounds_named (r ∷ trace) h =
      All-cons (IsRoundOf m) (round_told r) (map round_told trace)
      (record { form = omega (arith, h.0.form_in, length-matrices m); count = h.0.numbers })
      (rounds_named trace h.1)

  pub run_named : (told : List Round) (trace : List RunRound) → IsRun m trace → told ≡ map round_told trace
      → All (IsRoundOf m) told
  run_named told trace run is =
      All-same (IsRoundOf m) told (map round_told trace) is (rounds_named trace (run_cuts m trace run))

  pub no_rounds : (told : List Round) → told ≡ [] → All (IsRoundOf m) told
  no_rounds told is = All-same (IsRoundOf m) told [] is (All-nil (IsRoundOf m))

  -- ---- what was found
  found_rounds : (way : Route) (c : Certificate) (told : List Round) → IsFoundBy way m c told → All (IsRoundOf m) told
  found_rounds Dual c told h = no_rounds told h.2
  found_rounds Cuts c told h = run_named told h.trace h.run h.rounds

  pub rounds_of_found : (way : Route) (c : Certificate) (told : List Round) → IsFound way m c told
      → All (IsRoundOf m) told
  rounds_of_found way c told h = found_rounds way c told h.found

  -- ---- spots
  path_spot : (limit : ℕ) (place : Spot) → dual.IsWideOnPath limit m place → IsSpotOf m place
  path_spot limit (spot.Dictionary program.Set basis i) h = tt
  path_spot limit (spot.Dictionary program.Reform basis i) h = tt
  path_spot limit (spot.Dictionary program.Master basis i) h = tt
  path_spot limit (spot.Dictionary (program.SearchPlan form) basis i) h = absurd h
  path_spot limit (spot.Dictionary (program.SearchMove form) basis i) h = absurd h
  path_spot limit (spot.Coefficient where_it_is) h = absurd h
  path_spot limit (spot.Clearing where_it_is) h = absurd h
  path_spot limit (spot.Sum where_it_is j) h = absurd h
  path_spot limit (spot.Check place) h = absurd h
  path_spot limit (spot.Replay number) h = tt

  cut_in : (r : RunRound) (f : ℕ) → IsCut m r.cut → r.cut.form ≡ f → f < length (forms m)
  cut_in r f h is = omega (arith, h.form_in, is, length-matrices m)

  run_spot : (limit : ℕ) (told : List RunRound) (place : RunSpot) → IsWideAfter limit m (trace_cuts told) place
      → IsSpotOf m (spot_told place)
  run_spot limit told (set_row basis i) h = tt
  run_spot limit told (master_row basis i) h = tt
  run_spot limit told (search_row true f basis i) h = omega (arith, h.2.form_in, length-matrices m)
  run_spot limit told (search_row false f basis i) h = omega (arith, h.2.form_in, length-matrices m)
  run_spot limit told (clearing true) h = tt
  run_spot limit told (clearing false) h = tt
  run_spot limit told (cost f k) h = omega (arith, h.3.form_in, length-matrices m)
  run_spot limit told (cut_clearing f) h = cut_in h.0 f (round_cut m (trace_cuts told) h.0 h.1) h.2
  run_spot limit told (cut_sum f j) h = cut_in h.0 f (round_cut m (trace_cuts told) h.0 h.1) h.2

  wide_spot : (way : Route) (limit : ℕ) (place : Spot) (told : List Round)
      → IsWideBy way limit m place told → IsSpotOf m place
  wide_spot Dual limit place told h = path_spot limit place h.0
  wide_spot Cuts limit place told h =
      subst (IsSpotOf m) (sym h.place_is) (run_spot limit h.trace h.spot h.wide.wide)

  wide_rounds : (way : Route) (limit : ℕ) (place : Spot) (told : List Round) → IsWideBy way limit m place told
      → All (IsRoundOf m) told
  wide_rounds Dual limit place told h = no_rounds told h.1
  wide_rounds Cuts limit place told h = run_named told h.trace h.wide.run h.rounds

  pub stop_of : (way : Route) (limit : ℕ) (s : Stop) → HasStopCause way limit m s → IsStopOf m s
  stop_of way limit (stop.EmptySet weights) h = sym (length-map weights of_int) ∙ h.shown.shows.count
  stop_of way limit (stop.Wide place trace) h =
      (wide_spot way limit place trace.rounds h, wide_rounds way limit place trace.rounds h)
  stop_of way limit stop.Memory h = tt

  -- ---- a wide number is one on the route's way
  pub wide_on_way : (way : Route) (limit : ℕ) (place : Spot) (told : List Round) → IsWideBy way limit m place told
      → IsWideOnWay way limit m place
  wide_on_way Dual limit place told h = h.0
  wide_on_way Cuts limit place told h = (told, h)

  -- where no scenario is admitted, it is one of a row of the set's program, since all else comes behind an admitted one
  run_empty : IsEmptySet m → (limit : ℕ) (trace : List RunRound) (place : RunSpot)
      → IsWideAfter limit m (trace_cuts trace) place → IsRefusedAfter limit m (trace_cuts trace) place
      → cuts.ComesAfterSet m trace place → IsEmptyAnswer limit m (TooWide (spot_told place))
  run_empty none limit trace (set_row basis i) wide refused after =
      (record { whole = wide.whole; row = wide.row }, refused)
  run_empty none limit trace (master_row basis i) wide refused after = absurd (none after.0 after.1)
  run_empty none limit trace (search_row by_step f basis i) wide refused after = absurd (none after.0 after.1)
  run_empty none limit trace (clearing by_step) wide refused after = absurd (none after.0 after.1)
  run_empty none limit trace (cost f k) wide refused after = absurd (none after.0 after.1)
  run_empty none limit trace (cut_clearing f) wide refused after = absurd (none after.0 after.1)
  run_empty none limit trace (cut_sum f j) wide refused after = absurd (none after.0 after.1)

  path_empty : IsEmptySet m → (limit : ℕ) (place : Spot) → dual.IsWideOnPath limit m place
      → IsEmptyAnswer limit m (TooWide place)
  path_empty none limit place h =
      let is = path_in_set limit m none place h in
      subst (λ (s : Spot). IsEmptyAnswer limit m (TooWide s)) (sym is.2)
      (subst (λ (s : Spot). dual.IsWideOnPath limit m s) is.2 h)

  pub empty_on_way : (way : Route) → IsEmptySet m → (limit : ℕ) (place : Spot) → IsWideOnWay way limit m place
      → IsEmptyAnswer limit m (TooWide place)
  empty_on_way Dual none limit place h = path_empty none limit place h
  empty_on_way Cuts none limit place h =
      let w = h.1 in
      subst (λ (s : Spot). IsEmptyAnswer limit m (TooWide s)) (sym w.place_is)
      (run_empty none limit w.trace w.spot w.wide.wide w.refused w.after)

-- ---- the two routes
module _ {N : Type 0} (value : N → Fraction) (limit : ℕ) (m : RobustModel) (before now : ℕ) where
  -- by the counterpart, whose rounds fit as there are none
  none_fit : (told : List Round) → told ≡ [] → Each (RoundFits limit) told
  none_fit told none = subst (λ (rounds : List Round). Each (RoundFits limit) rounds) (sym none) tt

  pub dual_found : (way : Route) → way ≡ Dual → (cert : Cert N) (trace : Trace) (r : Result (Cert N) Stop)
      → r ≡ Ok cert → trace.rounds ≡ []
      → dual.Solves value limit m before now r → SolvesBy way value limit m before now (Ok (cert, trace))
  dual_found way by cert trace r is none h =
      let here : dual.Solves value limit m before now (Ok cert) =
      subst (λ (x : Result (Cert N) Stop). dual.Solves value limit m before now x) is h in
      subst (λ (w : Route). SolvesBy w value limit m before now (Ok (cert, trace))) (sym by)
      (record {
        found = record {
          proves = here.solved.proves;
          shape = here.solved.shape;
          found = (here.solved.read, here.solved.inside, none);
        };
        stopped = tt;
        fits = none_fit trace.rounds none;
        counted = here.counted;
      })

  dual_fits : (s : Stop) → dual.HasCause limit m s → cuts.StopFits limit s
  dual_fits (stop.EmptySet weights) h = tt
  dual_fits (stop.Wide place trace) h = none_fit trace.rounds h.1
  dual_fits stop.Memory h = tt

  dual_cause : (s : Stop) → dual.HasCause limit m s → HasStopCause Dual limit m s
  dual_cause (stop.EmptySet weights) h = h
  dual_cause (stop.Wide place trace) h = h
  dual_cause stop.Memory h = tt

  pub dual_stopped : (way : Route) → way ≡ Dual → (s : Stop) (r : Result (Cert N) Stop) → r ≡ Err s
      → dual.Solves value limit m before now r → SolvesBy way value limit m before now (Err s)
  dual_stopped way by s r is h =
      let here : dual.Solves value limit m before now (Err s) =
      subst (λ (x : Result (Cert N) Stop). dual.Solves value limit m before now x) is h in
      subst (λ (w : Route). SolvesBy w value limit m before now (Err s)) (sym by)
      (record {
        found = tt;
        stopped = dual_cause s here.stopped;
        fits = dual_fits s here.stopped;
        counted = here.counted;
      })

  cuts_cause : (s : Stop) → cuts.HasCause limit m s → HasStopCause Cuts limit m s
  cuts_cause (stop.EmptySet weights) h = h
  cuts_cause (stop.Wide place trace) h = h
  cuts_cause stop.Memory h = tt

  -- by cutting planes
  abbrev RoundsFit : Result (Cert N × Trace) Stop → Type 0
  RoundsFit r = MatchResult r (λ answer. Each (RoundFits limit) answer.1.rounds) (cuts.StopFits limit)

  cuts_answers_so : (all : Forms) (set : SetForm) (r : Result (Cert N × Trace) Stop) → IsModel m
      → IsForms m all → IsSetForm m set
      → IfOk r (λ answer. (k : RobustModel) → IsModel k → IsForms k all → IsSetForm k set
      → cuts.IsSolution k (certificate_of value answer.0) answer.1.rounds)
      → IfErr r (λ s. (k : RobustModel) → IsModel k → IsForms k all → IsSetForm k set → cuts.HasCause limit k s)
      → RoundsFit r → MatchResult r (λ _. now ≡ before) (dual.CountsStop before now)
      → SolvesBy Cuts value limit m before now r
  cuts_answers_so all set (Ok answer) model f g h none fits counted =
      let found = h m model f g in
      record {
        found = record { proves = found.proves; shape = found.shape; found = found };
        stopped = tt;
        fits = fits;
        counted = counted;
      }
  cuts_answers_so all set (Err s) model f g none h fits counted =
      record { found = tt; stopped = cuts_cause s (h m model f g); fits = fits; counted = counted }

  pub cuts_answers : (way : Route) → way ≡ Cuts → (all : Forms) (set : SetForm) (r : Result (Cert N × Trace) Stop)
      → IsModel m → IsForms m all → IsSetForm m set
      → IfOk r (λ answer. (k : RobustModel) → IsModel k → IsForms k all → IsSetForm k set
      → cuts.IsSolution k (certificate_of value answer.0) answer.1.rounds)
      → IfErr r (λ s. (k : RobustModel) → IsModel k → IsForms k all → IsSetForm k set → cuts.HasCause limit k s)
      → RoundsFit r → MatchResult r (λ _. now ≡ before) (dual.CountsStop before now)
      → SolvesBy way value limit m before now r
  cuts_answers way by all set r model f g solved stopped fits counted =
      subst (λ (w : Route). SolvesBy w value limit m before now r) (sym by)
      (cuts_answers_so all set r model f g solved stopped fits counted)
