-- A run that goes on, and the sizes that the calls ask for.
use Rattle.std.proofs.Common.{◌≡◌, ℕ, suc, ◌+◌, ◌-◌, ◌*◌, ◌^◌, ◌<◌, ◌≤◌, List, [], ◌∷◌, ◌++◌, length, length-append, sym, ap, ◌∙◌, subst, arith}
use Rattle.std.proofs.Math.Nat.{le-mul_of_pos_right}
use Rattle.rob_algebra.specs.Fraction.{Fraction}
use Rattle.rob_meaning.specs.Places.{Each}
use Rattle.rob_meaning.specs.RobustModel.{RobustModel}
use Rattle.rob_cert.specs.declared.ending.Stop.{Stop}
use Rattle.rob_cert.specs.declared.trace.Round.{Round as Traced}
use Rattle.rob_elab.specs.Elaborated.{AreElaborated}
use Rattle.rob_elab.specs.declared.forms.Forms.{Forms}
use Rattle.rob_rows.specs.LinearPrograms.{HasNumbersWithin}
use Rattle.rob_sets.specs.declared.set_form.SetForm.{SetForm}
use Rattle.rob_counterpart.specs.Reform.{block}
use Rattle.rob_dualize.specs.SetSolving.{IsFewSet}
use Rattle.rob_dualize.specs.Wholes.{wholes, counterpart_of, AreSound, IsFew, HoldsOfEach}
use Rattle.rob_dualize.specs.declared.elaborated.Elaborated.{Elaborated}
use Rattle.rob_dualize.proofs.MakingLemmas.{set_of_few}
use Rattle.rob_dualize.proofs.Soundness.{forms_sound, elaborated_weaker}
use Rattle.rob_runs.specs.Cuts.{Cut}
use Rattle.rob_runs.specs.Searches.{basic_cut_limit}
use Rattle.rob_cuts.specs.declared.run.Run.{Run}
use Rattle.rob_cuts.specs.Master.{IsMasterList, AddsCut}
use Rattle.rob_cuts.specs.Rounds.{cut_of, cuts_told, CutFits, RoundFits, TellsRun}
use Rattle.rob_cuts.specs.Runs.{IsRunSoFar, round_limit}
use Rattle.rob_cuts.specs.Outcomes.{IsNext, IsOutcome}
use Rattle.rob_cuts.specs.Stops.{StopsWith, IsInSum}
use Rattle.rob_cuts.specs.declared.round.Outcome.{Outcome}
use Rattle.rob_cuts.specs.declared.round.Outcome.TheVariants as outcome
use Rattle.rob_cuts.specs.Solving.{AreOfModel, FitsRoute}
use Rattle.rob_cuts.proofs.StopLemmas.{IsWideThere, stops_also, sum_place}
use Rattle.rob_cuts.proofs.MasterLemmas.{cut_added}
use Rattle.rob_cuts.proofs.RunLemmas.{cuts-more, tells_more, rounds_few, limit_is, next_form, fits_alone}
use Rattle.rob_meaning.proofs.Lists.EachLemmas.{each_push}

-- no round yet
pub state_none : {limit : ℕ} {forms : Forms} {set : SetForm} {run : Run} → 1 ≤ limit → IsMasterList forms [] run.master
    → ((limit : ℕ) → 1 ≤ limit → HasNumbersWithin limit run.master) → run.rounds ≡ [] → IsRunSoFar limit forms set run
state_none {limit = limit} {forms = forms} {run = run} one list within e = record {
  master = subst (λ (rounds : List Traced). IsMasterList forms (cuts_told rounds) run.master) (sym e) list;
  within = within limit one;
  fits = subst (λ (rounds : List Traced). Each (RoundFits limit) rounds) (sym e) tt;
  tells = λ m model f st. record { trace = []; run = tt; told = e };
}

-- ---- the round that comes next
-- after the run so far, of each model with these forms and set rows
pub record IsNextOf (limit : ℕ) (forms : Forms) (set : SetForm) (run : Run) (round : Traced) : Type 0 where
  pub one : AreOfModel limit forms set
  pub state : IsRunSoFar limit forms set run
  pub next : HoldsOfEach forms set (λ m. IsNext limit m run.rounds round)

pub next_of : {limit : ℕ} {forms : Forms} {set : SetForm} {run : Run} → AreOfModel limit forms set
    → IsRunSoFar limit forms set run → {N : Type 0} (value : N → Fraction) {o : Outcome N} {round : Traced}
    → o ≡ outcome.Cut round → HoldsOfEach forms set (λ m. IsOutcome value limit m run.rounds o)
    → IsNextOf limit forms set run round
next_of {limit = limit} {run = run} one state value is leads = record {
  one = one;
  state = state;
  next = λ m model f st. subst (IsOutcome value limit m run.rounds) is (leads m model f st);
}

module _ {limit : ℕ} {forms : Forms} {set : SetForm} {run : Run} {round : Traced}
    (r : IsNextOf limit forms set run round) where
  abbrev m : RobustModel
  m = r.one.elaborated.model

  next_here : IsNext limit m run.rounds round
  next_here = r.next m r.one.is_model r.one.elaborated.are_forms r.one.elaborated.is_set

  -- its form exists
  pub next_form_in : round.form < length forms.matrices
  next_form_in =
      let t = r.state.tells m r.one.is_model r.one.elaborated.are_forms r.one.elaborated.is_set in
      subst (λ (n : ℕ). round.form < n) (sym (ap length r.one.elaborated.are_forms.matrices))
      (next_form m run.rounds t next_here.next round next_here.is_round next_here.told)

  -- its cut has a number for each parameter, none of them over the limit
  pub next_fits : CutFits limit forms.params (cut_of round)
  next_fits =
      subst (λ (n : ℕ). CutFits limit n (cut_of round)) (sym r.one.elaborated.are_forms.params) next_here.fits

  -- the run goes on with it
  module _ (now : Run) (adds : AddsCut forms (cut_of round) run.master now.master)
      (within : HasNumbersWithin limit run.master → HasNumbersWithin limit now.master)
      (e : now.rounds ≡ run.rounds ++ round ∷ []) where
    pub state_more : IsRunSoFar limit forms set now
    state_more = record {
      master = subst (λ (cs : List Cut). IsMasterList forms cs now.master)
          (sym (ap cuts_told e ∙ cuts-more run.rounds round))
          (cut_added forms (cuts_told run.rounds) (cut_of round) run.master now.master r.state.master adds);
      within = within r.state.within;
      fits = subst (λ (rounds : List Traced). Each (RoundFits limit) rounds) (sym e)
          (each_push (RoundFits limit) run.rounds round r.state.fits
          (fits_alone limit (length m.parameters) round next_here.fits));
      tells = λ m model f st. let n = r.next m model f st in
          subst (λ (rounds : List Traced). TellsRun m rounds) (sym e)
          (tells_more m run.rounds (r.state.tells m model f st) n.next round n.is_round n.told);
    }

    -- so less rounds are left
    pub rounds_left : round_limit forms set - length now.rounds < round_limit forms set - length run.rounds
    rounds_left =
        let n : length now.rounds ≡ length run.rounds + 1 = ap length e ∙ length-append run.rounds (round ∷ []) in
        let few : length now.rounds ≤ basic_cut_limit m =
        rounds_few m now.rounds
        (state_more.tells m r.one.is_model r.one.elaborated.are_forms r.one.elaborated.is_set) in
        let is : round_limit forms set ≡ basic_cut_limit m =
        limit_is m forms set r.one.elaborated.are_forms r.one.elaborated.is_set in
        let room : length now.rounds ≤ round_limit forms set = subst (λ (v : ℕ). length now.rounds ≤ v) (sym is) few in
        less (round_limit forms set) (length now.rounds) (length run.rounds) n room
      where
        less : (a n b : ℕ) → n ≡ b + 1 → n ≤ a → a - n < a - b
        less a n b e l = omega arith

  -- where it doesn't, a sum of its cut's number is wide
  pub sum_stops : (stop : Stop) → StopsWith (IsInSum limit forms (cut_of round)) stop
      → HoldsOfEach forms set (λ m. StopsWith (IsWideThere limit m (cuts_told run.rounds)) stop)
  sum_stops stop w m model f st =
      stops_also _ _ (sum_place limit m forms f run.rounds round (r.next m model f st)) stop w

-- its forms are sound
pub route_sound : {limit : ℕ} {forms : Forms} {set : SetForm} → AreOfModel limit forms set → limit ≤ 2 ^ 62 - 1
    → AreSound forms
route_sound {forms = forms} {set = set} one high =
    forms_sound forms set (elaborated_weaker 4611686018427387903 forms set high one.elaborated)

-- ---- sizes
module _ {limit : ℕ} (forms : Forms) (set : SetForm) (one : AreElaborated limit forms set)
    (few : IsFew (counterpart_of forms set)) where
  pub few_columns : forms.columns < 2 ^ 31
  few_columns = omega (arith, few)

  pub few_pairs : suc forms.columns + suc forms.columns < 2 ^ 31
  few_pairs = omega (arith, few)

  pub few_forms : length forms.matrices < 2 ^ 32
  few_forms =
      let h : length forms.matrices ≤ length forms.matrices * block (wholes forms set) =
      le-mul_of_pos_right (length forms.matrices) (omega arith) in
      omega (arith, few)

-- of a model that fits the route
module _ {limit : ℕ} {model : Elaborated} (fits : FitsRoute limit model) where
  pub route_forms : length model.forms.now.matrices < 2 ^ 32
  route_forms = few_forms model.forms.now model.set.now fits.elaborated fits.few

  pub route_set : IsFewSet model.set.now
  route_set = set_of_few model.forms.now model.set.now fits.elaborated fits.few

  -- what holds of each such model holds of the one that it is elaborated from
  pub of_route : {P : RobustModel → Type 0} → HoldsOfEach model.forms.now model.set.now P → P fits.elaborated.model
  of_route h = h fits.elaborated.model fits.is_model fits.elaborated.are_forms fits.elaborated.is_set
