-- Models with budgets of uncertainty, worked by hand, each with the certificate of its answer.
use Rattle.std.specs.Prelude.{[], ◌∷◌, Some, None, codes}
use Rattle.rob_algebra.specs.Fraction.{Fraction, ratio}
use Rattle.rob_meaning.proofs.ByHand.WorkedNotation.{int, over, ◌⊕◌, ◌⊖◌, times, uncertain, var, rule, around, row, cover, item, best}
use Rattle.rob_meaning.proofs.ByHand.WorkedTests.{found, test_certificate}
use Rattle.rob_meaning.specs.Expressions.{Expression, number, parameter, variable, adaptive, sum, no_terms, term}
use Rattle.rob_meaning.specs.Places.{0ℚ, 1ℚ}
use Rattle.rob_meaning.specs.RobustModel.{RobustModel, at_least, budget, minimise}
use Rattle.rob_meaning.specs.Status.{IsOptimal}
use Rattle.std.specs.Prelude.{false, true}

-- ---- d1 and d2 in [8, 12], |d1 - 10| / 2 + |d2 - 10| / 2 <= g; minimise x where x >= d1 + d2
-- set rows: 0 to 3 the bounds, 4 to 7 the members up and down, 8 their sum
abbrev two_demands_with_a_budget : Fraction → RobustModel
two_demands_with_a_budget g = record {
  parameters =
      uncertain (codes "d1") (Some (int 8)) (Some (int 12)) ∷ uncertain (codes "d2") (Some (int 8))
      (Some (int 12)) ∷ [];
  set_lines = budget g (around 0 (int 10) (int 2) ∷ around 1 (int 10) (int 2) ∷ []) ∷ [];
  variables = var (codes "x") None None ∷ [];
  adaptives = [];
  sets = [];
  line_sets = [];
  objective_set = 0;
  row_sets = [];
  sense = minimise;
  objective = variable 0;
  rows = row (codes "need") (variable 0) at_least (parameter 0 ⊕ parameter 1) ∷ [];
}

-- the worst scenario is (12, 10)
budget_1_costs_22 : IsOptimal (two_demands_with_a_budget 1ℚ) (int 22)
unfolding ratio
budget_1_costs_22 =
    found
    (test_certificate (two_demands_with_a_budget 1ℚ)
    (best (int 22) (int 10 ∷ int 10 ∷ []) (int 22 ∷ [])
    (cover 1 4 1ℚ ∷ cover 1 6 1ℚ ∷ cover 1 8 (int 2) ∷ [])
    (item 0 1ℚ (int 10 ∷ int 10 ∷ []) ∷ item 1 1ℚ (int 12 ∷ int 10 ∷ []) ∷ [])))
    tt

-- the worst scenario is (12, 11); the budget's row is cleared to 2 t1 + 2 t2 <= 3
budget_3_halves_costs_23 : IsOptimal (two_demands_with_a_budget (over 3 2)) (int 23)
unfolding ratio
budget_3_halves_costs_23 =
    found
    (test_certificate (two_demands_with_a_budget (over 3 2))
    (best (int 23) (int 10 ∷ int 10 ∷ []) (int 23 ∷ [])
    (cover 1 4 1ℚ ∷ cover 1 6 1ℚ ∷ cover 1 8 1ℚ ∷ [])
    (item 0 1ℚ (int 10 ∷ int 10 ∷ []) ∷ item 1 1ℚ (int 12 ∷ int 11 ∷ []) ∷ [])))
    tt

-- the centre is the one scenario
budget_0_costs_20 : IsOptimal (two_demands_with_a_budget 0ℚ) (int 20)
unfolding ratio
budget_0_costs_20 =
    found
    (test_certificate (two_demands_with_a_budget 0ℚ)
    (best (int 20) (int 10 ∷ int 10 ∷ []) (int 20 ∷ [])
    (cover 1 4 1ℚ ∷ cover 1 6 1ℚ ∷ cover 1 8 (int 2) ∷ [])
    (item 0 1ℚ (int 10 ∷ int 10 ∷ []) ∷ item 1 1ℚ (int 10 ∷ int 10 ∷ []) ∷ [])))
    tt

-- ---- two periods: x now, y(d1) >= 0 when d1 is known; minimise 2 x + 2 y - d1 where x >= d1 and x + y >= d1 + d2
abbrev two_periods_with_a_budget : RobustModel
two_periods_with_a_budget = record (two_demands_with_a_budget 1ℚ) {
  adaptives = rule (codes "y") (0 ∷ []) (Some 0ℚ) ∷ [];
  objective = (times (number (int 2)) (variable 0) ⊕ times (number (int 2)) (adaptive 0)) ⊖ parameter 0;
  rows =
      row (codes "now") (variable 0) at_least (parameter 0)
      ∷ row (codes "all") (variable 0 ⊕ adaptive 0) at_least (parameter 0 ⊕ parameter 1) ∷ [];
}

-- x = 12, y = 5 + d1/2: the objective is 34 in every scenario; all is tight at (10, 12), and the objective is wanted at
-- d1 = 8 and d1 = 12, half each
two_periods_cost_34 : IsOptimal two_periods_with_a_budget (int 34)
unfolding ratio
two_periods_cost_34 =
    found
    (test_certificate two_periods_with_a_budget
    (best (int 34) (int 10 ∷ int 10 ∷ []) (int 12 ∷ int 5 ∷ over 1 2 ∷ [])
    (cover 1 1 1ℚ ∷ cover 2 4 (over 3 4) ∷ cover 2 5 (over 1 4) ∷ cover 2 6 1ℚ ∷ cover 2 8
    (int 2) ∷ cover 3 0 (over 1 2) ∷ [])
    (item 0 (over 1 2) (int 8 ∷ int 10 ∷ []) ∷ item 0 (over 1 2) (int 12 ∷ int 10 ∷ []) ∷ item 2 (int 2)
    (int 10 ∷ int 12 ∷ []) ∷ [])))
    tt

-- the same where y is decided now
abbrev two_periods_without_a_rule : RobustModel
two_periods_without_a_rule = record two_periods_with_a_budget { adaptives = rule (codes "y") [] (Some 0ℚ) ∷ [] }

-- x = 12, y = 10
without_a_rule_cost_36 : IsOptimal two_periods_without_a_rule (int 36)
unfolding ratio
without_a_rule_cost_36 =
    found
    (test_certificate two_periods_without_a_rule
    (best (int 36) (int 10 ∷ int 10 ∷ []) (int 12 ∷ int 10 ∷ [])
    (cover 0 0 1ℚ ∷ cover 1 1 1ℚ ∷ cover 2 4 1ℚ ∷ cover 2 6 1ℚ ∷ cover 2 8 (int 2) ∷ [])
    (item 0 1ℚ (int 8 ∷ int 10 ∷ []) ∷ item 2 (int 2) (int 12 ∷ int 10 ∷ []) ∷ [])))
    tt

-- ---- orders and stock: d1 in [9, 13] and d2 in [10, 14] with a budget of 1 round 11 and 12; the cost counts the
-- orders and what is in stock behind each period
abbrev stock_one : Expression
stock_one = variable 0 ⊖ parameter 0

abbrev stock_two : Expression
stock_two =
    sum (term false (variable 0) (term false (adaptive 0) (term true (parameter 0) (term true (parameter 1) no_terms))))

abbrev orders_and_stock : RobustModel
orders_and_stock = record two_periods_with_a_budget {
  parameters =
      uncertain (codes "d1") (Some (int 9)) (Some (int 13)) ∷ uncertain (codes "d2") (Some (int 10))
      (Some (int 14)) ∷ [];
  set_lines = budget 1ℚ (around 0 (int 11) (int 2) ∷ around 1 (int 12) (int 2) ∷ []) ∷ [];
  variables = var (codes "x") (Some 0ℚ) None ∷ [];
  objective =
      sum (term false (variable 0) (term false (adaptive 0) (term false stock_one (term false stock_two no_terms))));
}

-- x = 13, y = 1 + d1: at (11, 14) the two orders together must be 25, x must be 13, so at (11, 10) the cost is at least
-- 13 + 2*25 - 2*11 - 10 = 31
orders_and_stock_cost_31 : IsOptimal orders_and_stock (int 31)
unfolding ratio
orders_and_stock_cost_31 =
    found
    (test_certificate orders_and_stock
    (best (int 31) (int 11 ∷ int 12 ∷ []) (int 13 ∷ 1ℚ ∷ 1ℚ ∷ [])
    (cover 0 2 1ℚ ∷ cover 1 1 1ℚ ∷ cover 2 3 1ℚ ∷ cover 4 0 1ℚ ∷ [])
    (item 0 1ℚ (int 11 ∷ int 10 ∷ []) ∷ item 1 1ℚ (int 13 ∷ int 12 ∷ []) ∷ item 2 (int 2) (int 11 ∷ int 14 ∷ []) ∷ [])))
    tt
