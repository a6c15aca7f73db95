-- Outcomes of rounds, from how they are made.
use Rattle.std.proofs.Common.{◌≡◌, ℕ, ◌<◌, ◌≤◌, ◌^◌, List, map, length, refl, sym, ap, ◌∙◌, subst, Result, Ok, Err, true, false}
use Rattle.std.specs.Prelude.{IfOk, MatchResult}
use Rattle.rob_algebra.specs.Fraction.{Fraction, of_int, ◌*ℚ◌}
use Rattle.rob_meaning.specs.Certificates.{Certificate}
use Rattle.rob_meaning.specs.Places.{tabulate, at}
use Rattle.rob_meaning.specs.RobustModel.{RobustModel}
use Rattle.rob_meaning.specs.UncertaintySet.{Admits}
use Rattle.rob_meaning.specs.Vectors.{scale}
use Rattle.rob_meaning.specs.WellFormed.{IsModel}
use Rattle.rob_cert.specs.View.{cover_of}
use Rattle.rob_cert.specs.declared.trace.Round.{Round as Traced}
use Rattle.rob_cert.specs.declared.ending.Stop.{Stop}
use Rattle.rob_cert.specs.declared.ending.Stop.TheVariants.{Memory}
use Rattle.rob_elab.specs.Forms.{IsForms}
use Rattle.rob_elab.specs.declared.forms.Forms.{Forms}
use Rattle.rob_model.specs.declared.plan.Plan.{Plan}
use Rattle.rob_model.specs.declared.place.Spot.TheVariants as spot
use Rattle.rob_model.specs.declared.place.Where.TheVariants as of
use Rattle.rob_number.specs.declared.lp_kind.LpKind.TheVariants as kind
use Rattle.rob_number.specs.declared.memory.Memory.{Memory as NoMemory}
use Rattle.rob_sets.specs.SetForm.{IsSetForm}
use Rattle.rob_sets.specs.declared.set_form.SetForm.{SetForm}
use Rattle.rob_counterpart.specs.ReadCertificates.{plan_read, bound_read}
use Rattle.rob_rows.specs.declared.program.Lp.{Lp}
use Rattle.rob_sets.specs.Stops.{StopsFor}
use Rattle.rob_sets.specs.declared.error.Stop.{Stop as Refusal}
use Rattle.rob_simplex.specs.Solvers.{Solver, column_of, positions}
use Rattle.rob_simplex.specs.Solutions.{point_of, dual_of, ray_of, weights_of}
use Rattle.rob_dualize.specs.Ending.{infeasible_with}
use Rattle.rob_dualize.specs.Solving.{IsLastScenario}
use Rattle.rob_runs.specs.Readings.{AreKept, covers_of_amounts, cleared_by}
use Rattle.rob_runs.specs.Runs.{plan_at, direction_at, best, boundless}
use Rattle.rob_worst.specs.Finders.{IsFinder}
use Rattle.rob_worst.specs.declared.finder.Finder.{Finder}
use Rattle.rob_cuts.specs.declared.cut.Cut.{Cut as Made}
use Rattle.rob_cuts.specs.declared.kept.Kept.{Kept}
use Rattle.rob_cuts.specs.declared.look.PlanLook.TheVariants as of_plan
use Rattle.rob_cuts.specs.declared.look.StepLook.TheVariants as of_step
use Rattle.rob_cuts.specs.declared.round.Outcome.{Outcome}
use Rattle.rob_cuts.specs.declared.round.Outcome.TheVariants as outcome
use Rattle.rob_cuts.specs.Certificates.{optimal_with, unbounded_with, items_told}
use Rattle.rob_cuts.specs.Covered.{covered_plan}
use Rattle.rob_cuts.specs.Looks.{IsPlanLook, IsStepLook}
use Rattle.rob_cuts.specs.Made.{cut_made}
use Rattle.rob_cuts.specs.Rounds.{cuts_told, round_told, TellsRun}
use Rattle.rob_cuts.specs.Scans.{IsScanStopped}
use Rattle.rob_cuts.specs.Steps.{SomeWideProduct}
use Rattle.rob_cuts.specs.Stops.{IsRefused}
use Rattle.rob_cuts.specs.Outcomes.{IsEnd, IsNext, IsOutcome, IsWideNext, IsEndWith}
use Rattle.rob_cuts.proofs.CertificateLemmas.{IsCoveredAt}
use Rattle.rob_cuts.proofs.CutLemmas.{refused_at}
use Rattle.rob_cuts.proofs.LookLemmas.{step_columns, step_bound_is, step_wide}
use Rattle.rob_cuts.proofs.RoundLemmas.{IsEndedMaster, few_rounds, best_next, best_end, empty_end, step_looks, step_next, point_stopped, point_next, boundless_end}
use Rattle.rob_cuts.proofs.SolvingLemmas.{or_stopped}
use Rattle.rob_cuts.proofs.StopLemmas.{IsWideThere, step_place}

module _ {N : Type 0} (value : N → Fraction) (limit : ℕ) (m : RobustModel) (rounds : List Traced) where
  -- a further round
  pub leads_on : (round : Traced) → IsNext limit m rounds round → (t : Outcome N) → t ≡ outcome.Cut round
      → IsOutcome value limit m rounds t
  leads_on round next t e = subst (IsOutcome value limit m rounds) (sym e) next

  pub answer_leads_on : (round : Traced) → IsNext limit m rounds round → (answer : Result (Outcome N) NoMemory)
      → IfOk answer (λ t. t ≡ outcome.Cut round)
      → IfOk answer (IsOutcome value limit m rounds)
  answer_leads_on round next (Ok t) e = leads_on round next t e
  answer_leads_on round next (Err stop) e = e

  -- the end
  module _ (model : IsModel m) (forms : Forms) (f : IsForms m forms) (set : SetForm) (st : IsSetForm m set)
      (finder : Finder N) (is : IsFinder set finder)
      (made : List Fraction → Certificate)
      (end : (inside : List Fraction) → Admits m inside → IsLastScenario m inside
      → IsEnd m (cuts_told rounds) (made inside)) where
    pub leads_out : (t : Outcome N) → IsEndWith value forms finder made t → IsOutcome value limit m rounds t
    leads_out (outcome.Cut round) h = absurd h
    leads_out (outcome.End cert) h =
        let found = h.1 m set model f st is in
        subst (IsEnd m (cuts_told rounds)) (sym h.2) (end h.0 found.0 found.1)

    pub answer_leads_out : (answer : Result (Outcome N) NoMemory) → IfOk answer (IsEndWith value forms finder made)
        → IfOk answer (IsOutcome value limit m rounds)
    answer_leads_out (Ok t) h = leads_out t h
    answer_leads_out (Err stop) h = h

  -- want of memory as a stop
  pub leads_or_stops : (answer : Result (Outcome N) NoMemory) → IfOk answer (IsOutcome value limit m rounds)
      → (result : Result (Outcome N) Stop)
      → MatchResult result (λ x. answer ≡ Ok x) (λ stop. stop ≡ Memory)
      → MatchResult result (IsOutcome value limit m rounds) (IsWideNext limit m rounds)
  leads_or_stops answer h result is = or_stopped (IsOutcome value limit m rounds) (IsWideNext limit m rounds) tt
      answer h result is

-- a plan that was looked at, with its covers
pub covered_at : {N : Type 0} (value : N → Fraction) (m : RobustModel) (x : ℕ → Fraction)
    (amounts : ℕ → List Fraction) (plan : Plan N) (kept : Kept N)
    → map value plan.columns ≡ plan_read m x → value plan.bound ≡ bound_read m x → AreKept m (plan_at m x) amounts
    → map (cover_of value) kept.covers ≡ covers_of_amounts m amounts → value kept.scale ≡ cleared_by (plan_at m x)
    → IsCoveredAt m x amounts (covered_plan value plan kept)
covered_at value m x amounts plan kept ep eb h ec es = record
    { kept = h; plan = ep; bound = eb; scale_is = es; covers = ec }

-- a round more
further : {N : Type 0} (value : N → Fraction) (limit : ℕ) (m : RobustModel) (rounds : List Traced) (round : Traced)
    → IsNext limit m rounds round → (answer : Result (Outcome N) NoMemory) → IfOk answer (λ t. t ≡ outcome.Cut round)
    → (result : Result (Outcome N) Stop)
    → MatchResult result (λ x. answer ≡ Ok x) (λ stop. stop ≡ Memory)
    → MatchResult result (IsOutcome value limit m rounds) (IsWideNext limit m rounds)
further value limit m rounds round next answer is result e =
    leads_or_stops value limit m rounds answer (answer_leads_on value limit m rounds round next answer is) result e

-- ---- a master with a best plan
module _ {N : Type 0} (value : N → Fraction) (limit : ℕ) {m : RobustModel} {forms : Forms} {rounds : List Traced}
    {master : Lp} {s : Solver} (r : IsEndedMaster m forms rounds master kind.Optimal s) where
  -- it is cut off
  pub best_cut_off : (cut : Made) → IsPlanLook limit m value (point_of s) (of_plan.Broken cut)
      → (answer : Result (Outcome N) NoMemory)
      → IfOk answer (λ t. t ≡ outcome.Cut (round_told (record
      { kind = best; by_step = false; basis = s.basis; cut = cut_made cut })))
      → (result : Result (Outcome N) Stop) → MatchResult result (λ x. answer ≡ Ok x) (λ stop. stop ≡ Memory)
      → MatchResult result (IsOutcome value limit m rounds) (IsWideNext limit m rounds)
  best_cut_off cut look answer is result e =
      further value limit m rounds
      (round_told (record { kind = best; by_step = false; basis = s.basis; cut = cut_made cut }))
      (best_next r limit (cut_made cut) look.0 look.1
      (round_told (record { kind = best; by_step = false; basis = s.basis; cut = cut_made cut })) refl) answer is
      result e

  -- it is the optimum
  pub optimum_out : IsModel m → TellsRun m rounds → positions s < 2 ^ 31 → {set : SetForm} → IsSetForm m set
      → (finder : Finder N) → IsFinder set finder → (plan : Plan N) (kept : Kept N)
      → IsPlanLook limit m value (point_of s) (of_plan.Kept plan kept)
      → (answer : Result (Outcome N) NoMemory)
      → IfOk answer (IsEndWith value forms finder
      (λ inside. optimal_with inside (covered_plan value plan kept)
      (items_told (length forms.matrices) rounds (dual_of s))))
      → (result : Result (Outcome N) Stop) → MatchResult result (λ x. answer ≡ Ok x) (λ stop. stop ≡ Memory)
      → MatchResult result (IsOutcome value limit m rounds) (IsWideNext limit m rounds)
  optimum_out model t few {set = set} st finder is plan kept look answer ended result e =
      leads_or_stops value limit m rounds answer
      (answer_leads_out value limit m rounds model forms r.are_forms set st finder is
      (λ inside. optimal_with inside (covered_plan value plan kept)
      (items_told (length forms.matrices) rounds (dual_of s)))
      (λ inside admitted last.
      subst (λ (n : ℕ). IsEnd m (cuts_told rounds) (optimal_with inside (covered_plan value plan kept)
      (items_told n rounds (dual_of s)))) (sym (ap length r.are_forms.matrices))
      (best_end r t (few_rounds r few) inside admitted last look.2.0 (covered_plan value plan kept)
      (covered_at value m (point_of s) look.2.0 plan kept look.0 look.1 look.2.1 look.2.2 look.2.3)))
      answer ended)
      result e

-- ---- a master of which no plan keeps the cuts
module _ {N : Type 0} (value : N → Fraction) (limit : ℕ) {m : RobustModel} {forms : Forms} {rounds : List Traced}
    {master : Lp} {s : Solver} (r : IsEndedMaster m forms rounds master kind.Infeasible s) where
  pub infeasible_out : IsModel m → TellsRun m rounds → positions s < 2 ^ 31 → {set : SetForm} → IsSetForm m set
      → (finder : Finder N) → IsFinder set finder → (answer : Result (Outcome N) NoMemory)
      → IfOk answer (IsEndWith value forms finder (λ inside. infeasible_with inside
      (items_told (length forms.matrices) rounds (λ q. of_int (weights_of s q)))))
      → (result : Result (Outcome N) Stop) → MatchResult result (λ x. answer ≡ Ok x) (λ stop. stop ≡ Memory)
      → MatchResult result (IsOutcome value limit m rounds) (IsWideNext limit m rounds)
  infeasible_out model t few {set = set} st finder is answer ended result e =
      leads_or_stops value limit m rounds answer
      (answer_leads_out value limit m rounds model forms r.are_forms set st finder is
      (λ inside. infeasible_with inside (items_told (length forms.matrices) rounds (λ q. of_int (weights_of s q))))
      (λ inside admitted last.
      subst (λ (n : ℕ). IsEnd m (cuts_told rounds) (infeasible_with inside
      (items_told n rounds (λ q. of_int (weights_of s q))))) (sym (ap length r.are_forms.matrices))
      (empty_end r t (few_rounds r few) inside admitted last))
      answer ended)
      result e

-- ---- a master without a best plan
module _ {N : Type 0} (value : N → Fraction) (limit : ℕ) {m : RobustModel} {forms : Forms} {rounds : List Traced}
    {master : Lp} {s : Solver} (r : IsEndedMaster m forms rounds master kind.Unbounded s) where
  -- its direction is cut off
  pub step_cut_off : (cut : Made) → IsStepLook limit m value (ray_of s) (of_step.Broken cut)
      → (answer : Result (Outcome N) NoMemory)
      → IfOk answer (λ t. t ≡ outcome.Cut (round_told (record
      { kind = boundless (column_of s.state); by_step = true; basis = s.basis; cut = cut_made cut })))
      → (result : Result (Outcome N) Stop) → MatchResult result (λ x. answer ≡ Ok x) (λ stop. stop ≡ Memory)
      → MatchResult result (IsOutcome value limit m rounds) (IsWideNext limit m rounds)
  step_cut_off cut look answer is result e =
      further value limit m rounds (round_told (record {
        kind = boundless (column_of s.state);
        by_step = true;
        basis = s.basis;
        cut = cut_made cut;
      }))
      (step_next r limit (cut_made cut) look.0 look.1
      (round_told (record {
        kind = boundless (column_of s.state);
        by_step = true;
        basis = s.basis;
        cut = cut_made cut;
      })) refl) answer is result e

  -- where it is kept, a number of it is wide as it is made whole
  pub step_refused : (numbers : List N) (held : Kept N)
      → IsStepLook limit m value (ray_of s) (of_step.Kept numbers held)
      → {items : List N} → items ≡ numbers → 1 ≤ limit → (refusal : Refusal)
      → StopsFor (SomeWideProduct limit (value held.scale) (map value items)) refusal
      → (stop : Stop) → IsRefused (spot.Clearing of.Move) refusal stop → IsWideNext limit m rounds stop
  step_refused numbers held away {items = items} same one refusal wide stop e =
      refused_at (IsWideThere limit m (cuts_told rounds)) (spot.Clearing of.Move)
      (SomeWideProduct limit (value held.scale) (map value items))
      (λ w. step_place limit m (cuts_told rounds) (spot.Clearing of.Move) (direction_at m (ray_of s)) (step_looks r)
      (step_wide m (ray_of s) (value held.scale) (map value items) (ap (map value) same ∙ away.0) limit one away.1.3
      w) refl)
      refusal wide stop e

  module _ (model : IsModel m) (numbers : List N) (held : Kept N)
      (away : IsStepLook limit m value (ray_of s) (of_step.Kept numbers held)) where
    -- its plan is cut off
    pub point_cut_off : (cut : Made) → IsPlanLook limit m value (point_of s) (of_plan.Broken cut)
        → (answer : Result (Outcome N) NoMemory)
        → IfOk answer (λ t. t ≡ outcome.Cut (round_told (record
        { kind = boundless (column_of s.state); by_step = false; basis = s.basis; cut = cut_made cut })))
        → (result : Result (Outcome N) Stop) → MatchResult result (λ x. answer ≡ Ok x) (λ stop. stop ≡ Memory)
        → MatchResult result (IsOutcome value limit m rounds) (IsWideNext limit m rounds)
    point_cut_off cut look answer is result e =
        further value limit m rounds (round_told (record {
          kind = boundless (column_of s.state);
          by_step = false;
          basis = s.basis;
          cut = cut_made cut;
        }))
        (point_next r model away.1.0 away.1.1 limit (cut_made cut) look.0 look.1
        (round_told (record {
          kind = boundless (column_of s.state);
          by_step = false;
          basis = s.basis;
          cut = cut_made cut;
        })) refl) answer is result e

    pub plan_stopped : (stop : Stop) → IsScanStopped limit m false (plan_at m (point_of s)) stop
        → IsWideNext limit m rounds stop
    plan_stopped = point_stopped r model away.1.0 away.1.1 limit

    -- the model is unbounded
    pub unbounded_out : TellsRun m rounds → positions s < 2 ^ 31 → (plan : Plan N) (kept : Kept N)
        → IsPlanLook limit m value (point_of s) (of_plan.Kept plan kept)
        → (step : Plan N) {items : List N} → items ≡ numbers
        → map value step.columns ≡ tabulate forms.columns (λ j. value held.scale *ℚ at (map value items) j)
        → value step.bound ≡ value held.scale *ℚ at (map value items) forms.columns
        → (inside : List Fraction) → Admits m inside × IsLastScenario m inside → {cert : Certificate}
        → cert ≡ unbounded_with inside (covered_plan value plan kept) (map value step.columns) (value step.bound)
        (map (cover_of value) held.covers) → IsEnd m (cuts_told rounds) cert
    unbounded_out t few plan kept look step {items = items} same ec eb inside found is =
        let read = ap (map value) same ∙ away.0 in
        subst (IsEnd m (cuts_told rounds)) (sym is)
        (boundless_end r model away.1.0 away.1.1 t (few_rounds r few) inside found.0 found.1 look.2.0
        (covered_plan value plan kept) (map value step.columns) (value step.bound) (map (cover_of value) held.covers)
        (covered_at value m (point_of s) look.2.0 plan kept look.0 look.1 look.2.1 look.2.2 look.2.3)
        away.1.2
        (ec ∙ ap (λ (n : ℕ). tabulate n (λ j. value held.scale *ℚ at (map value items) j)) r.are_forms.columns
        ∙ step_columns m (ray_of s) (value held.scale) (map value items) read
        ∙ ap (λ (c : Fraction). scale c (plan_read m (ray_of s))) away.1.3)
        (eb ∙ ap (λ (n : ℕ). value held.scale *ℚ at (map value items) n) r.are_forms.columns
        ∙ step_bound_is m (ray_of s) (value held.scale) (map value items) read
        ∙ ap (λ (c : Fraction). c *ℚ bound_read m (ray_of s)) away.1.3))
