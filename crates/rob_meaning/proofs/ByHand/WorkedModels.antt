-- Models worked by hand, each with the certificate of its answer. A certificate
-- lists the plan's number for each decision column, what each set row gives to cover
-- a form, and the items: forms, taken at scenarios, whose sum no plan can escape.
use Rattle.std.specs.Prelude.{[], ◌∷◌, Some, None, codes}
use Rattle.rob_algebra.specs.Fraction.{ratio}
use Rattle.rob_meaning.proofs.Proving.StatusLemmas.{optimum_is_worst_case}
use Rattle.rob_meaning.proofs.ByHand.WorkedNotation.{int, over, minus_one, ◌⊕◌, times, uncertain, var, rule, row, cover, item, ray_item, best, none, without_end}
use Rattle.rob_meaning.proofs.ByHand.WorkedTests.{found, test_certificate}
use Rattle.rob_meaning.specs.Certificates.{Certificate}
use Rattle.rob_meaning.specs.Expressions.{number, parameter, variable, adaptive}
use Rattle.rob_meaning.specs.Guarantee.{HasWorstCase}
use Rattle.rob_meaning.specs.Places.{0ℚ, 1ℚ}
use Rattle.rob_meaning.specs.RobustModel.{RobustModel, at_most, at_least, equal, line, minimise, maximise}
use Rattle.rob_meaning.specs.Status.{IsOptimal, IsInfeasible, IsUnbounded}

-- ---- d in [8, 12]; minimise x where x >= d
abbrev one_demand_in_an_interval : RobustModel
one_demand_in_an_interval = record {
  parameters = uncertain (codes "d") (Some (int 8)) (Some (int 12)) ∷ [];
  set_lines = [];
  variables = var (codes "x") None None ∷ [];
  adaptives = [];
  sets = [];
  line_sets = [];
  objective_set = 0;
  row_sets = [];
  sense = minimise;
  objective = variable 0;
  rows = row (codes "need") (variable 0) at_least (parameter 0) ∷ [];
}

-- x = 12; the objective x - tau <= 0 and the row at d = 12, 12 - x <= 0, sum to 12 - tau <= 0
abbrev order_12 : Certificate
order_12 =
    best (int 12) (int 8 ∷ []) (int 12 ∷ [])
    (cover 1 1 1ℚ ∷ [])
    (item 0 1ℚ (int 12 ∷ []) ∷ item 1 1ℚ (int 12 ∷ []) ∷ [])

one_demand_costs_12 : IsOptimal one_demand_in_an_interval (int 12)
unfolding ratio
one_demand_costs_12 = found (test_certificate one_demand_in_an_interval order_12) tt

-- so 12 is the worst case of the plan x = 12
order_12_has_worst_case_12 : HasWorstCase one_demand_in_an_interval one_demand_costs_12.attained.0 (int 12)
order_12_has_worst_case_12 =
    optimum_is_worst_case one_demand_in_an_interval one_demand_costs_12.attained.0
    (int 12) one_demand_costs_12 one_demand_costs_12.attained.1

-- ---- x >= 0 at 3 now, y(d) >= 0 at 2 when d is known; x + y >= d
abbrev order_now_or_later : RobustModel
order_now_or_later = record {
  parameters = uncertain (codes "d") (Some (int 8)) (Some (int 12)) ∷ [];
  set_lines = [];
  variables = var (codes "x") (Some 0ℚ) None ∷ [];
  adaptives = rule (codes "y") (0 ∷ []) (Some 0ℚ) ∷ [];
  sets = [];
  line_sets = [];
  objective_set = 0;
  row_sets = [];
  sense = minimise;
  objective = times (number (int 3)) (variable 0) ⊕ times (number (int 2)) (adaptive 0);
  rows = row (codes "need") (variable 0 ⊕ adaptive 0) at_least (parameter 0) ∷ [];
}

-- x = 0 and y = d
order_later_costs_24 : IsOptimal order_now_or_later (int 24)
unfolding ratio
order_later_costs_24 =
    found
    (test_certificate order_now_or_later
    (best (int 24) (int 8 ∷ []) (0ℚ ∷ 0ℚ ∷ 1ℚ ∷ [])
    (cover 0 1 (int 2) ∷ cover 3 0 1ℚ ∷ [])
    (item 0 1ℚ (int 12 ∷ []) ∷ item 1 (int 2) (int 12 ∷ []) ∷ item 2 1ℚ (int 12 ∷ []) ∷ [])))
    tt

-- ---- minimise y where d <= y <= d + 1, with a rule on d
abbrev a_rule_follows_the_demand : RobustModel
a_rule_follows_the_demand = record {
  parameters = uncertain (codes "d") (Some (int 8)) (Some (int 12)) ∷ [];
  set_lines = [];
  variables = [];
  adaptives = rule (codes "y") (0 ∷ []) None ∷ [];
  sets = [];
  line_sets = [];
  objective_set = 0;
  row_sets = [];
  sense = minimise;
  objective = adaptive 0;
  rows =
      row (codes "lo") (adaptive 0) at_least (parameter 0)
      ∷ row (codes "hi") (adaptive 0) at_most (parameter 0 ⊕ number 1ℚ) ∷ [];
}

-- y = d
rule_costs_12 : IsOptimal a_rule_follows_the_demand (int 12)
unfolding ratio
rule_costs_12 =
    found
    (test_certificate a_rule_follows_the_demand
    (best (int 12) (int 8 ∷ []) (0ℚ ∷ 1ℚ ∷ [])
    (cover 0 1 1ℚ ∷ [])
    (item 0 1ℚ (int 12 ∷ []) ∷ item 1 1ℚ (int 12 ∷ []) ∷ [])))
    tt

-- the same with a rule on nothing: y is decided now
abbrev an_empty_list_is_no_rule : RobustModel
an_empty_list_is_no_rule = record a_rule_follows_the_demand { adaptives = rule (codes "y") [] None ∷ [] }

-- lo at d = 12 and hi at d = 8 sum to 3 <= 0
empty_list_is_infeasible : IsInfeasible an_empty_list_is_no_rule
unfolding ratio
empty_list_is_infeasible =
    found
    (test_certificate an_empty_list_is_no_rule
    (none (int 8 ∷ []) (item 1 1ℚ (int 12 ∷ []) ∷ item 2 1ℚ (int 8 ∷ []) ∷ [])))
    tt

-- ---- an equality in every scenario: y = d
abbrev an_equality_in_every_scenario : RobustModel
an_equality_in_every_scenario =
    record a_rule_follows_the_demand { rows = row (codes "all") (adaptive 0) equal (parameter 0) ∷ [] }

equality_costs_12 : IsOptimal an_equality_in_every_scenario (int 12)
unfolding ratio
equality_costs_12 =
    found
    (test_certificate an_equality_in_every_scenario
    (best (int 12) (int 8 ∷ []) (0ℚ ∷ 1ℚ ∷ [])
    (cover 0 1 1ℚ ∷ [])
    (item 0 1ℚ (int 12 ∷ []) ∷ item 2 1ℚ (int 12 ∷ []) ∷ [])))
    tt

-- ---- d1 in [8, 12] and d1 + d2 = 20; minimise x where x >= d2: 12, at d1 = 8
abbrev demands_that_sum_to_20 : RobustModel
demands_that_sum_to_20 = record {
  parameters =
      uncertain (codes "d1") (Some (int 8)) (Some (int 12)) ∷ uncertain (codes "d2") None None ∷ [];
  set_lines = line (parameter 0 ⊕ parameter 1) equal (number (int 20)) ∷ [];
  variables = var (codes "x") None None ∷ [];
  adaptives = [];
  sets = [];
  line_sets = [];
  objective_set = 0;
  row_sets = [];
  sense = minimise;
  objective = variable 0;
  rows = row (codes "need") (variable 0) at_least (parameter 1) ∷ [];
}

rest_costs_12 : IsOptimal demands_that_sum_to_20 (int 12)
unfolding ratio
rest_costs_12 =
    found
    (test_certificate demands_that_sum_to_20
    (best (int 12) (int 10 ∷ int 10 ∷ []) (int 12 ∷ [])
    (cover 1 0 1ℚ ∷ cover 1 2 1ℚ ∷ [])
    (item 0 1ℚ (int 8 ∷ int 12 ∷ []) ∷ item 1 1ℚ (int 8 ∷ int 12 ∷ []) ∷ [])))
    tt

-- ---- d >= 0 without end; minimise x where x >= d
abbrev a_demand_without_end : RobustModel
a_demand_without_end =
    record one_demand_in_an_interval { parameters = uncertain (codes "d") (Some 0ℚ) None ∷ [] }

-- the row along the ray d = 1 says 1 <= 0
endless_demand_is_infeasible : IsInfeasible a_demand_without_end
unfolding ratio
endless_demand_is_infeasible =
    found (test_certificate a_demand_without_end (none (0ℚ ∷ []) (ray_item 1 1ℚ (1ℚ ∷ []) ∷ []))) tt

-- ---- minimise d, and d >= 0 without end: whatever is decided, the objective has no bound
abbrev an_objective_without_end : RobustModel
an_objective_without_end = record a_demand_without_end { objective = parameter 0; rows = [] }

-- the objective along the ray d = 1 says 1 <= 0
endless_objective_is_infeasible : IsInfeasible an_objective_without_end
unfolding ratio
endless_objective_is_infeasible =
    found (test_certificate an_objective_without_end (none (0ℚ ∷ []) (ray_item 0 1ℚ (1ℚ ∷ []) ∷ []))) tt

-- ---- minimise x, with no parameter and no row
abbrev a_cost_without_end : RobustModel
a_cost_without_end = record {
  parameters = [];
  set_lines = [];
  variables = var (codes "x") None None ∷ [];
  adaptives = [];
  sets = [];
  line_sets = [];
  objective_set = 0;
  row_sets = [];
  sense = minimise;
  objective = variable 0;
  rows = [];
}

-- from x = 0 with bound 0, in the direction -1
endless_cost_is_unbounded : IsUnbounded a_cost_without_end
unfolding ratio
endless_cost_is_unbounded =
    found (test_certificate a_cost_without_end (without_end (0ℚ ∷ []) (minus_one ∷ []) minus_one)) tt

-- ---- a in [2, 3]; minimise x >= 0 where a x >= 1
abbrev an_uncertain_coefficient : RobustModel
an_uncertain_coefficient = record {
  parameters = uncertain (codes "a") (Some (int 2)) (Some (int 3)) ∷ [];
  set_lines = [];
  variables = var (codes "x") (Some 0ℚ) None ∷ [];
  adaptives = [];
  sets = [];
  line_sets = [];
  objective_set = 0;
  row_sets = [];
  sense = minimise;
  objective = variable 0;
  rows = row (codes "r") (times (parameter 0) (variable 0)) at_least (number 1ℚ) ∷ [];
}

-- x = 1/2
least_coefficient_costs_a_half : IsOptimal an_uncertain_coefficient (over 1 2)
unfolding ratio
least_coefficient_costs_a_half =
    found
    (test_certificate an_uncertain_coefficient
    (best (over 1 2) (int 2 ∷ []) (over 1 2 ∷ [])
    (cover 1 0 (over 1 2) ∷ [])
    (item 0 1ℚ (int 2 ∷ []) ∷ item 1 (over 1 2) (int 2 ∷ []) ∷ [])))
    tt

-- ---- p in [1, 3]; maximise p x with x in [0, 5]
abbrev a_profit_at_the_lowest_price : RobustModel
a_profit_at_the_lowest_price = record {
  parameters = uncertain (codes "p") (Some 1ℚ) (Some (int 3)) ∷ [];
  set_lines = [];
  variables = var (codes "x") (Some 0ℚ) (Some (int 5)) ∷ [];
  adaptives = [];
  sets = [];
  line_sets = [];
  objective_set = 0;
  row_sets = [];
  sense = maximise;
  objective = times (parameter 0) (variable 0);
  rows = [];
}

-- x = 5; at p = 1 the objective tau - x <= 0 and the bound x - 5 <= 0 sum to tau - 5 <= 0
profit_is_5 : IsOptimal a_profit_at_the_lowest_price (int 5)
unfolding ratio
profit_is_5 =
    found
    (test_certificate a_profit_at_the_lowest_price
    (best (int 5) (1ℚ ∷ []) (int 5 ∷ [])
    (cover 0 0 (int 5) ∷ [])
    (item 0 1ℚ (1ℚ ∷ []) ∷ item 2 1ℚ (1ℚ ∷ []) ∷ [])))
    tt

-- ---- nothing to decide and nothing uncertain: the objective is 1/2
abbrev nothing_to_decide : RobustModel
nothing_to_decide = record {
  parameters = [];
  set_lines = [];
  variables = [];
  adaptives = [];
  sets = [];
  line_sets = [];
  objective_set = 0;
  row_sets = [];
  sense = minimise;
  objective = number (over 1 2);
  rows = [];
}

-- its form is 1 - 2 tau <= 0, cleared, so its weight is 1/2
nothing_costs_a_half : IsOptimal nothing_to_decide (over 1 2)
unfolding ratio
nothing_costs_a_half =
    found (test_certificate nothing_to_decide (best (over 1 2) [] [] [] (item 0 (over 1 2) [] ∷ []))) tt
