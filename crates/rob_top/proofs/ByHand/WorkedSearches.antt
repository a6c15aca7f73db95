-- A call of `worst` worked by hand: the objective at an order of 12, whose slack is 0 in each scenario, and no number
-- on the way is wide; and so how the call must end.
use Rattle.std.proofs.Common.{◌≡◌, ℕ, zero, suc, pos, ◌<◌, ◌≤◌, true, false, List, [], ◌∷◌, length, refl, ◌∙◌, ap, subst, inl, inr, ◌⊎◌, arith}
use Rattle.std.specs.Int.RustNames.{unsigned_abs}
use Rattle.std.specs.Prelude.{codes}
use Rattle.rob_algebra.proofs.WidthLaws.{fits_not_wide, fits_of_kept}
use Rattle.rob_algebra.specs.Fraction.{Fraction, neg_ℚ, ratio, ◌+ℚ◌, ◌*ℚ◌}
use Rattle.rob_algebra.specs.FractionLaws as Q
use Rattle.rob_algebra.specs.Polynomials.{lit, minus, ◌:*◌, ◌:+◌, v0}
use Rattle.rob_algebra.specs.Width.{Fits, IsWide}
use Rattle.rob_linear.specs.Vectors.{columns_of}
use Rattle.rob_bounds.proofs.NarrowPaths.{narrow_path}
use Rattle.rob_bounds.specs.Bounds.{IsNarrow}
use Rattle.rob_dualize.proofs.NarrowModels.{one_demand_admitted, one_demand_model, one_demand_narrow, one_demand_not_wide}
use Rattle.rob_dualize.specs.SetSolving.{IsWideInSet}
use Rattle.rob_dualize.specs.SmallestModel.{one_demand}
use Rattle.rob_meaning.proofs.Proving.CoverLemmas.{form_at-parts}
use Rattle.rob_meaning.proofs.ByHand.WorkedNotation.{int}
use Rattle.rob_meaning.specs.Forms.{constant_part, form_at, form_columns, matrices, parameter_part}
use Rattle.rob_meaning.specs.Multipliers.{set_limits}
use Rattle.rob_meaning.specs.Places.{0ℚ, 1ℚ}
use Rattle.rob_meaning.specs.Vectors.{dot}
use Rattle.rob_model.specs.declared.place.Program.TheVariants as program
use Rattle.rob_model.specs.declared.place.Spot.{Spot}
use Rattle.rob_model.specs.declared.place.Spot.TheVariants as spot
use Rattle.rob_model.specs.declared.place.Where.TheVariants as where_at
use Rattle.rob_runs.proofs.Searching.FoundLemmas.{found_value}
use Rattle.rob_runs.specs.Readings.{cleared_by}
use Rattle.rob_runs.specs.Searches.{search_at}
use Rattle.rob_runs.specs.Spots.{IsWideCleared, IsWideCost, IsWideSlack, slack_of}
use Rattle.rob_runs.specs.Told.{cleared_plan}
use Rattle.rob_top.proofs.ByHand.WorkedSlacks.{objective_spelled, zero_dot}
use Rattle.rob_top.proofs.ByHand.WorkedWorsts.{line, order_12_plan}
use Rattle.rob_top.proofs.Meaning.WorstSlackLemmas.{slack_found}
use Rattle.rob_top.specs.Completeness.{MustEnd}
use Rattle.rob_top.specs.Endings.{EndsAs}
use Rattle.rob_top.specs.Inputs.{HasSought}
use Rattle.rob_top.specs.Searched.{IsWideSought, certificate_vector, in_search, in_set, in_slack}
use Rattle.rob_top.specs.WorkedCalls.{worst_call}
use Rattle.rob_top.specs.WorkedModels.{greatest, order_12}
use Rattle.rob_commands.specs.declared.ended.Ended.{Ended}
use Rattle.rob_commands.specs.declared.ended.Ended.TheVariants.{Printed}
use Rattle.rob_worst.specs.Finding.{IsWideAt}

-- ---- worst one.rob one.cert objective
objective_sought : HasSought (worst_call order_12 (codes "objective")) (line (codes "objective")) one_demand order_12 0
objective_sought =
    record { plan = order_12_plan (codes "objective") objective_spelled; is_form = omega arith; told = refl }

-- ---- the form x - tau at x = 12, whose bound is 12
abbrev at_plan : List Fraction
at_plan = certificate_vector order_12

no_part : parameter_part one_demand 0 at_plan ≡ 0ℚ ∷ []
unfolding ratio
no_part = refl

nothing_left : constant_part one_demand 0 at_plan ≡ 0ℚ
unfolding ratio
nothing_left = refl

form_in : 0 < length (matrices one_demand)
form_in = omega arith

form_is : (u : List Fraction) → form_at one_demand 0 1ℚ u at_plan ≡ 0ℚ
form_is u =
    form_at-parts one_demand 0 form_in 1ℚ u at_plan
    ∙ ap (λ (part : List Fraction). 1ℚ *ℚ constant_part one_demand 0 at_plan +ℚ dot part u) no_part
    ∙ ap (λ x. 1ℚ *ℚ constant_part one_demand 0 at_plan +ℚ x) (zero_dot u)
    ∙ ap (λ x. 1ℚ *ℚ x +ℚ 0ℚ) nothing_left
    ∙ Q.ring [] (lit (pos 1) :* lit (pos 0) :+ lit (pos 0)) (lit (pos 0)) refl

size : length at_plan ≡ form_columns one_demand
size = refl

-- ---- the search's program is that of the set, with the cost 0
no_cost : (a j : ℕ) → j < (search_at one_demand 0 at_plan).n
    → unsigned_abs ((search_at one_demand 0 at_plan).c j) ≤ a
unfolding ratio
no_cost a zero l = omega arith
no_cost a (suc zero) l = omega arith
no_cost a (suc (suc j)) l = absurd (omega (arith, l))

search_narrow : IsNarrow greatest (search_at one_demand 0 at_plan)
search_narrow =
    let n = one_demand_narrow.set in
    record {
      size = n.size;
      positive = n.positive;
      sized = record { left = n.sized.left; right = n.sized.right; cost = no_cost n.size };
      bound = n.bound;
    }

-- ---- no number on the way is wide
zero_fits : Fits greatest 0ℚ
unfolding ratio
zero_fits = (fits_of_kept greatest 0ℚ 0ℚ refl).1

none_cleared : IsWideCleared greatest at_plan → ⊥
unfolding ratio
none_cleared (inl h) = omega (arith, h)
none_cleared (inr (zero, l, h)) = omega (arith, h)
none_cleared (inr (suc zero, l, h)) = omega (arith, h)
none_cleared (inr (suc (suc zero), l, h)) = omega (arith, h)
none_cleared (inr (suc (suc (suc k)), l, h)) = omega (arith, l)

none_in_cost : (k : ℕ) → IsWideCost greatest one_demand 0 k at_plan → ⊥
unfolding ratio
none_in_cost zero (l, (zero, n, h)) = omega (arith, h)
none_in_cost zero (l, (suc zero, n, h)) = omega (arith, h)
none_in_cost zero (l, (suc (suc zero), n, h)) = omega (arith, h)
none_in_cost zero (l, (suc (suc (suc zero)), n, h)) = omega (arith, h)
none_in_cost zero (l, (suc (suc (suc (suc j))), n, h)) = omega (arith, n)
none_in_cost (suc zero) (l, (zero, n, h)) = omega (arith, h)
none_in_cost (suc zero) (l, (suc zero, n, h)) = omega (arith, h)
none_in_cost (suc zero) (l, (suc (suc zero), n, h)) = omega (arith, h)
none_in_cost (suc zero) (l, (suc (suc (suc zero)), n, h)) = omega (arith, h)
none_in_cost (suc zero) (l, (suc (suc (suc (suc j))), n, h)) = omega (arith, n)
none_in_cost (suc (suc k)) (l, h) = omega (arith, l)

none_in_search : (place : Spot) → IsWideAt greatest one_demand false 0 at_plan place → ⊥
none_in_search (spot.Dictionary (program.SearchPlan f) basis p) h =
    narrow_path greatest (search_at one_demand 0 at_plan) search_narrow (columns_of basis) p h.0.2.row
none_in_search (spot.Dictionary (program.SearchMove f) basis p) h = (let e : true ≡ false = h.0.0 in cc)
none_in_search (spot.Clearing where_at.Plan) h = none_cleared h.1
none_in_search (spot.Clearing where_at.Move) h = (let e : true ≡ false = h.0 in cc)
none_in_search (spot.Sum (where_at.Cost f) k) h = none_in_cost k h.1
none_in_search other h = absurd h

none_in_set : (place : Spot) → IsWideInSet greatest one_demand place → ⊥
none_in_set (spot.Dictionary program.Set basis i) h = one_demand_not_wide (spot.Dictionary program.Set basis i) h
none_in_set other h = absurd h

none_in_slack : IsWideSlack greatest one_demand 0 at_plan → ⊥
none_in_slack wide = by wide.wide
  where
    whole : dot wide.amounts (set_limits one_demand) +ℚ constant_part one_demand 0 (cleared_plan at_plan) ≡ 0ℚ
    whole =
        found_value one_demand one_demand_model 0 form_in at_plan size wide.basis wide.scenario wide.amounts wide.found
        ∙ ap (λ x. cleared_by at_plan *ℚ x) (form_is wide.scenario)
        ∙ Q.ring (cleared_by at_plan ∷ []) (v0 :* lit (pos 0)) (lit (pos 0)) refl

    over : slack_of (cleared_by at_plan) (dot wide.amounts (set_limits one_demand))
        (constant_part one_demand 0 (cleared_plan at_plan)) ≡ 0ℚ
    over =
        slack_found one_demand one_demand_model 0 form_in at_plan size (cleared_by at_plan)
        (dot wide.amounts (set_limits one_demand)) (constant_part one_demand 0 (cleared_plan at_plan)) wide.scenario
        wide.basis wide.amounts
        (record { found = wide.found; denominator_is = refl; peak_is = refl; constant_is = refl })
        ∙ ap neg_ℚ (form_is wide.scenario)
        ∙ Q.ring [] (minus (lit (pos 0))) (lit (pos 0)) refl

    by : IsWide greatest (dot wide.amounts (set_limits one_demand)
        +ℚ constant_part one_demand 0 (cleared_plan at_plan))
        ⊎ IsWide greatest (slack_of (cleared_by at_plan) (dot wide.amounts (set_limits one_demand))
        (constant_part one_demand 0 (cleared_plan at_plan))) → ⊥
    by (inl h) = fits_not_wide greatest 0ℚ zero_fits (subst (λ x. IsWide greatest x) whole h)
    by (inr h) = fits_not_wide greatest 0ℚ zero_fits (subst (λ x. IsWide greatest x) over h)

none_wide : (place : Spot) → IsWideSought greatest one_demand 0 at_plan place → ⊥
none_wide place (in_set h) = none_in_set place h
none_wide place (in_search some h) = none_in_search place h
none_wide place (in_slack some is h) = none_in_slack h

-- this call has to print the worst case
pub order_12_has_a_worst_case : (result : Ended)
    → MustEnd (worst_call order_12 (codes "objective")) result → EndsAs Printed result
order_12_has_a_worst_case result must =
    must.worst_printed (line (codes "objective")) one_demand order_12 0 (int 8 ∷ []) objective_sought
    one_demand_admitted none_wide
