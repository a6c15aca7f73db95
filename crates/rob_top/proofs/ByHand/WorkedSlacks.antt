-- A call of `worst` worked by hand: at the plan with the least number the slack of the objective is 12 more than the
-- greatest number, in each scenario; and so how the call must end.
use Rattle.std.proofs.Common.{◌≡◌, ℕ, pos, ◌<◌, List, [], ◌∷◌, None, length, refl, sym, ◌∙◌, ap, subst, inl, inr, ◌⊎◌, arith}
use Rattle.std.specs.Fmt.{digits}
use Rattle.std.specs.Prelude.{codes}
use Rattle.rob_algebra.proofs.WidthLaws.{wide_of_kept}
use Rattle.rob_algebra.specs.Fraction.{Fraction, neg_ℚ, ratio, ◌+ℚ◌, ◌*ℚ◌, ◌≤ℚ◌}
use Rattle.rob_algebra.specs.FractionLaws as Q
use Rattle.std.proofs.lemmas.Int.{ints}
use Rattle.rob_algebra.specs.Polynomials.{lit, ◌:*◌, ◌:+◌, v0}
use Rattle.rob_algebra.specs.Width.{IsWide, kept}
use Rattle.rob_dualize.proofs.NarrowModels.{one_demand_admitted, one_demand_model}
use Rattle.rob_dualize.specs.SmallestModel.{one_demand}
use Rattle.rob_meaning.proofs.Proving.CoverLemmas.{form_at-parts}
use Rattle.rob_meaning.proofs.ByHand.WorkedNotation.{int}
use Rattle.rob_meaning.specs.Forms.{constant_part, form_at, form_columns, matrices, parameter_part}
use Rattle.rob_meaning.specs.Multipliers.{set_limits}
use Rattle.rob_meaning.specs.Places.{0ℚ, 1ℚ}
use Rattle.rob_meaning.specs.Vectors.{dot}
use Rattle.rob_runs.proofs.Rounds.NextRounds.{search_tells}
use Rattle.rob_runs.specs.Readings.{IsKept, cleared_by}
use Rattle.rob_runs.specs.Runs.{KeepsForm}
use Rattle.rob_runs.specs.Searches.{FindsScenario}
use Rattle.rob_runs.specs.Spots.{IsWideSlack, slack_of}
use Rattle.rob_runs.specs.Told.{cleared_plan}
use Rattle.rob_top.proofs.ByHand.WorkedReplays.{order_least_fits, order_least_shape}
use Rattle.rob_top.proofs.ByHand.WorkedWorsts.{Come, Spelled, certificate_on, line}
use Rattle.rob_top.proofs.Meaning.WorstSlackLemmas.{slack_found}
use Rattle.rob_top.specs.Completeness.{MustEnd}
use Rattle.rob_top.specs.Endings.{NamesWideSought}
use Rattle.rob_top.specs.Inputs.{HasSought}
use Rattle.rob_top.specs.Searched.{certificate_vector}
use Rattle.rob_top.specs.WorkedCalls.{certificate_name, model_name, worst_call}
use Rattle.rob_top.specs.WorkedModels.{greatest, order_least}
use Rattle.rob_commands.specs.declared.ended.Ended.{Ended}
use Rattle.rob_words.specs.Commands.{own}

-- ---- worst one.rob one.cert objective
pub objective_spelled : Spelled (codes "objective")
objective_spelled = (
  own model_name ∷ own certificate_name ∷ own (codes "objective") ∷ [],
  record {
    spelled = refl;
    own = refl;
    count = refl;
    names = ((λ e. cc), ((λ e. cc), ((λ e. cc), tt)));
    kinds = (tt, (tt, (tt, tt)));
    width = inr (refl, refl);
    route = (refl, refl);
  },
)

order_least_comes : Come order_least
unfolding ratio digits
order_least_comes = record { model = refl; certificate = refl }

objective_sought : HasSought (worst_call order_least (codes "objective")) (line (codes "objective"))
    one_demand order_least 0
objective_sought = record {
  plan = record {
    certificate =
        certificate_on order_least (codes "objective") objective_spelled order_least_comes order_least_shape
        order_least_fits;
    has_plan = λ e. cc;
  };
  is_form = omega arith;
  told = refl;
}

-- ---- the form x - tau at the plan, whose bound is 12
abbrev at_plan : List Fraction
at_plan = certificate_vector order_least

abbrev its_constant : Fraction
its_constant = constant_part one_demand 0 at_plan

-- no parameter moves it
no_part : parameter_part one_demand 0 at_plan ≡ 0ℚ ∷ []
unfolding ratio
no_part = refl

pub zero_dot : (u : List Fraction) → dot (0ℚ ∷ []) u ≡ 0ℚ
zero_dot [] = refl
zero_dot (x ∷ u) = Q.ring (x ∷ []) (lit (pos 0) :* v0 :+ lit (pos 0)) (lit (pos 0)) refl

form_in : 0 < length (matrices one_demand)
form_in = omega arith

form_is : (u : List Fraction) → form_at one_demand 0 1ℚ u at_plan ≡ its_constant
form_is u =
    form_at-parts one_demand 0 form_in 1ℚ u at_plan
    ∙ ap (λ (part : List Fraction). 1ℚ *ℚ its_constant +ℚ dot part u) no_part
    ∙ ap (λ x. 1ℚ *ℚ its_constant +ℚ x) (zero_dot u)
    ∙ Q.ring (its_constant ∷ []) (lit (pos 1) :* v0 :+ lit (pos 0)) v0 refl

-- it is below 0, so the search for it finds a scenario
below : its_constant ≤ℚ 0ℚ
unfolding ratio
below = record { le = omega (arith, ints) }

form_kept : KeepsForm one_demand at_plan 0
form_kept u admitted = subst (λ x. x ≤ℚ 0ℚ) (sym (form_is u)) below

size : length at_plan ≡ form_columns one_demand
size = refl

search_found : (amounts : List Fraction) × IsKept one_demand at_plan 0 amounts
search_found = by (search_tells one_demand one_demand_model (int 8 ∷ []) one_demand_admitted at_plan size 0 form_in)
  where
    by : {A : Type 0} → ((amounts : List Fraction) × IsKept one_demand at_plan 0 amounts)
        ⊎ ((KeepsForm one_demand at_plan 0 → ⊥) × A)
        → (amounts : List Fraction) × IsKept one_demand at_plan 0 amounts
    by (inl found) = found
    by (inr cut) = absurd (cut.0 form_kept)

-- ---- its slack is wide
none_kept : kept greatest (neg_ℚ its_constant) ≡ None
unfolding ratio
none_kept = refl

slack_is : (basis : List ℕ) (scenario amounts : List Fraction)
    → FindsScenario one_demand 0 at_plan basis scenario amounts
    → slack_of (cleared_by at_plan) (dot amounts (set_limits one_demand))
    (constant_part one_demand 0 (cleared_plan at_plan)) ≡ neg_ℚ its_constant
slack_is basis scenario amounts found =
    slack_found one_demand one_demand_model 0 form_in at_plan size (cleared_by at_plan)
    (dot amounts (set_limits one_demand)) (constant_part one_demand 0 (cleared_plan at_plan)) scenario basis amounts
    (record { found = found; denominator_is = refl; peak_is = refl; constant_is = refl })
    ∙ ap neg_ℚ (form_is scenario)

slack_wide : IsWideSlack greatest one_demand 0 at_plan
slack_wide =
    let it = search_found in
    record {
      basis = it.1.basis;
      scenario = it.1.scenario;
      amounts = it.0;
      found = it.1.found;
      wide = inr (subst (λ x. IsWide greatest x)
          (sym (slack_is it.1.basis it.1.scenario it.0 it.1.found))
          (wide_of_kept greatest (neg_ℚ its_constant) none_kept));
    }

-- this call has to name a wide number
pub order_least_has_a_wide_slack : (result : Ended)
    → MustEnd (worst_call order_least (codes "objective")) result
    → NamesWideSought greatest one_demand 0 (certificate_vector order_least) result
order_least_has_a_wide_slack result must =
    must.worst_slack (line (codes "objective")) one_demand order_least 0 objective_sought slack_wide
