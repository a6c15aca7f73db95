-- The verdict on a certificate says whether it proves what it claims.
use Rattle.std.proofs.Common.{◌≡◌, ℕ, zero, Bool, true, false, ◌++◌, refl, subst, inl, inr, ◌⊎◌}
use Rattle.std.specs.Bool.{Decides}
use Rattle.std.specs.Prelude.{Some, None, if◌then◌else◌}
use Rattle.rob_algebra.specs.Fraction.{Fraction, ◌≤ℚ◌, ◌<ℚ◌}
use Rattle.rob_algebra.specs.FractionOrderLaws.{le_total_ℚ, not_lt_ℚ}
use Rattle.rob_cert.specs.Shape.{HasParts, HasShape}
use Rattle.rob_meaning.proofs.Proving.ProvesLemmas.{certificate_true, items_tight}
use Rattle.rob_meaning.specs.Certificates.{Certificate, Status, optimal, infeasible, unbounded}
use Rattle.rob_meaning.specs.Forms.{plan_vector}
use Rattle.rob_meaning.specs.Places.{0ℚ, 1ℚ, Each}
use Rattle.rob_meaning.specs.Proves.{EachCovered, HasStatus, Improves, IsItem, IsTight, Proves, ProvesAs, ProvesInfeasible, ProvesOptimal, ProvesUnbounded, combination, target}
use Rattle.rob_meaning.specs.RobustModel.{RobustModel, Sense, minimise, maximise, column_count}
use Rattle.rob_meaning.specs.UncertaintySet.{Admits}
use Rattle.rob_meaning.specs.WellFormed.{IsModel}
use Rattle.rob_model.specs.declared.place.Place.TheVariants as At
use Rattle.rob_check.specs.Claims.{SumsToPositive}
use Rattle.rob_check.specs.Conditions.{base_tests, conditions_as, covering_tests, improves, inside_tests, items_sum_tests, items_tests, move_tests, optimum_tests, plan_covering, ray_tests, step_covering, verdict_of}
use Rattle.rob_check.specs.Sums.{is_nonnegative, is_positive}
use Rattle.rob_check.specs.Verdicts.{Judges, OnAccepted, verdict}
use Rattle.rob_check.specs.declared.verdict.Verdict.{Verdict}
use Rattle.rob_check.specs.declared.verdict.Verdict.TheVariants.{Accepted, Rejected, TooWide}
use Rattle.rob_check.proofs.CoverLaws.{covering_judged}
use Rattle.rob_check.proofs.JudgeLemmas.{inside_judged, items_judged, judges_append, judges_as, judges_first, nonnegative_decides, positive_decides, tells_test}
use Rattle.rob_check.proofs.SumLaws.{infeasible_sums, optimal_sums}

improves_decides : (sense : Sense) (d : Fraction) → Decides (improves sense d) (Improves sense d)
improves_decides minimise d = by (is_nonnegative d) (nonnegative_decides d) (le_total_ℚ 0ℚ d)
  where
    by : (t : Bool) → Decides t (0ℚ ≤ℚ d) → (0ℚ ≤ℚ d) ⊎ (d <ℚ 0ℚ) → Decides (if t then false else true) (d <ℚ 0ℚ)
    by true k total = (λ e. cc, λ h. absurd (not_lt_ℚ 0ℚ d (k.0 refl) h))
    by false k (inl le) = (let impossible : false ≡ true = k.1 le in cc)
    by false k (inr lt) = (λ e. lt, λ h. refl)
improves_decides maximise d = positive_decides d

module _ (limit : ℕ) (m : RobustModel) (model : IsModel m) (c : Certificate) (shape : HasShape m c) where
  abbrev base : Type 0
  base = Admits m c.inside × Each (IsItem m) c.items

  base_judged : Judges base (verdict (base_tests limit m c))
  base_judged =
      judges_append (Admits m c.inside) (Each (IsItem m) c.items) (inside_tests limit m c.inside)
      (items_tests limit m zero c.items)
      (inside_judged limit m model c.inside shape.inside) (items_judged limit m model zero c.items shape.items.each)

  abbrev planned : Type 0
  planned = EachCovered m c.covers c.scale (plan_vector 1ℚ c.plan c.value)

  abbrev moves : Type 0
  moves = EachCovered m c.holds 1ℚ (plan_vector 0ℚ c.step c.step_bound)

  abbrev sums : Type 0
  sums = combination m c.items ≡ target m.sense (column_count m) c.value

  optimum_judged : Judges (sums × planned) (verdict (optimum_tests limit m c))
  optimum_judged =
      judges_append sums planned (items_sum_tests limit m (Some c.value) c) (covering_tests limit m (plan_covering c))
      (optimal_sums limit m c.items c.value) (covering_judged limit m (plan_covering c) shape.covers)

  move_judged : Judges (Improves m.sense c.step_bound × moves) (verdict (move_tests limit m c))
  move_judged =
      judges_first (Improves m.sense c.step_bound) moves At.MoveBound (Some (improves m.sense c.step_bound))
      (verdict (covering_tests limit m (step_covering c)))
      (tells_test (Improves m.sense c.step_bound) (improves m.sense c.step_bound)
      (improves_decides m.sense c.step_bound))
      (covering_judged limit m (step_covering c) shape.holds)

  ray_judged : Judges (planned × (Improves m.sense c.step_bound × moves)) (verdict (ray_tests limit m c))
  ray_judged =
      judges_append planned (Improves m.sense c.step_bound × moves)
      (covering_tests limit m (plan_covering c)) (move_tests limit m c)
      (covering_judged limit m (plan_covering c) shape.covers) move_judged

  as_judged : (status : Status) → HasParts m status c
      → Judges (ProvesAs status m c) (verdict (conditions_as limit m status c))
  as_judged optimal parts =
      judges_as ((0ℚ <ℚ c.scale) × (base × (sums × planned))) (ProvesOptimal m c)
      (verdict (conditions_as limit m optimal c))
      (λ h. record {
        inside = h.1.0.0;
        items = h.1.0.1;
        scale = h.0;
        columns = parts.plan;
        covered = h.1.1.1;
        sums = h.1.1.0;
      })
      (λ h. (h.scale, ((h.inside, h.items), (h.sums, h.covered))))
      (judges_first (0ℚ <ℚ c.scale) (base × (sums × planned)) At.Scale (Some (is_positive c.scale))
      (verdict (base_tests limit m c ++ optimum_tests limit m c))
      (tells_test (0ℚ <ℚ c.scale) (is_positive c.scale) (positive_decides c.scale))
      (judges_append base (sums × planned) (base_tests limit m c) (optimum_tests limit m c) base_judged optimum_judged))
  as_judged infeasible parts =
      judges_as (base × SumsToPositive m c.items) (ProvesInfeasible m c) (verdict (conditions_as limit m infeasible c))
      (λ h. record { inside = h.0.0; items = h.0.1; constant = h.1.constant; positive = h.1.positive; sums = h.1.sums })
      (λ h. ((h.inside, h.items), record { constant = h.constant; positive = h.positive; sums = h.sums }))
      (judges_append base (SumsToPositive m c.items) (base_tests limit m c) (items_sum_tests limit m None c) base_judged
      (infeasible_sums limit m c.items))
  as_judged unbounded parts =
      judges_as ((0ℚ <ℚ c.scale) × (base × (planned × (Improves m.sense c.step_bound × moves)))) (ProvesUnbounded m c)
      (verdict (conditions_as limit m unbounded c))
      (λ h. record {
        inside = h.1.0.0;
        items = h.1.0.1;
        scale = h.0;
        columns = parts.plan;
        step_columns = parts.step;
        covered = h.1.1.0;
        held = h.1.1.1.1;
        improves = h.1.1.1.0;
      })
      (λ h. (h.scale, ((h.inside, h.items), (h.covered, (h.improves, h.held)))))
      (judges_first (0ℚ <ℚ c.scale) (base × (planned × (Improves m.sense c.step_bound × moves))) At.Scale
      (Some (is_positive c.scale)) (verdict (base_tests limit m c ++ ray_tests limit m c))
      (tells_test (0ℚ <ℚ c.scale) (is_positive c.scale) (positive_decides c.scale))
      (judges_append base (planned × (Improves m.sense c.step_bound × moves)) (base_tests limit m c)
      (ray_tests limit m c) base_judged ray_judged))

  -- accepted, it proves; rejected, it doesn't
  pub proves_judged : Judges (Proves m c) (verdict_of limit m c)
  proves_judged = as_judged c.status shape.parts

  on_accepted : (P Q : Type 0) (v : Verdict) → (P → Q) → Judges P v → OnAccepted v Q
  on_accepted P Q Accepted f h = f h
  on_accepted P Q (Rejected place) f h = tt
  on_accepted P Q (TooWide place) f h = tt

  -- an accepted certificate is true, and the items of an optimal one are tight
  pub accepted_true : OnAccepted (verdict_of limit m c) (HasStatus m c.status c.value)
  accepted_true =
      on_accepted (Proves m c) (HasStatus m c.status c.value) (verdict_of limit m c)
      (certificate_true m model c) proves_judged

  pub accepted_tight : OnAccepted (verdict_of limit m c) (c.status ≡ optimal → IsTight m c)
  accepted_tight =
      on_accepted (Proves m c) (c.status ≡ optimal → IsTight m c) (verdict_of limit m c)
      (λ h e. items_tight m model c (subst (λ (s : Status). ProvesAs s m c) e h)) proves_judged
