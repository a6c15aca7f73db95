-- Budget sweeps worked by hand.
use Rattle.std.specs.Prelude.{[], ◌∷◌, Some, None, codes}
use Rattle.rob_algebra.specs.Fraction.{ratio}
use Rattle.rob_meaning.proofs.ByHand.WorkedNotation.{int, over, ◌⊕◌, uncertain, var, around, row, cover, item, best}
use Rattle.rob_meaning.proofs.ByHand.WorkedTests.{found, test_certificate}
use Rattle.rob_meaning.specs.Expressions.{parameter, variable}
use Rattle.rob_meaning.specs.Places.{0ℚ, 1ℚ}
use Rattle.rob_meaning.specs.RobustModel.{RobustModel, at_least, budget, minimise}
use Rattle.rob_reach.proofs.WorkedTests.{test_admitted, test_empty_set}
use Rattle.rob_reach.specs.Sweeps.{Swept, IsBudgetAt, is_optimal, is_empty, with_budget}

-- ---- d1 and d2 in [8, 12], |d1 - 10| / 2 + |d2 - 10| / 2 <= g; minimise x where x >= d1 + d2
-- set rows: 0 to 3 the bounds, 4 to 7 the members up and down, 8 their sum
abbrev two_demands : RobustModel
two_demands = record {
  parameters =
      uncertain (codes "d1") (Some (int 8)) (Some (int 12))
      ∷ uncertain (codes "d2") (Some (int 8)) (Some (int 12)) ∷ [];
  set_lines = budget 1ℚ (around 0 (int 10) (int 2) ∷ around 1 (int 10) (int 2) ∷ []) ∷ [];
  variables = var (codes "x") None None ∷ [];
  adaptives = [];
  sets = [];
  line_sets = [];
  objective_set = 0;
  row_sets = [];
  sense = minimise;
  objective = variable 0;
  rows = row (codes "need") (variable 0) at_least (parameter 0 ⊕ parameter 1) ∷ [];
}

-- the price of robustness: 20, 22, 23, 24 at the budgets 0, 1, 3/2, 2
price_of_robustness :
    Swept two_demands 1 (0ℚ ∷ 1ℚ ∷ over 3 2 ∷ int 2 ∷ [])
    (is_optimal (int 20) ∷ is_optimal (int 22) ∷ is_optimal (int 23) ∷ is_optimal (int 24) ∷ [])
unfolding ratio
price_of_robustness = (
  (
    λ none. none (int 10 ∷ int 10 ∷ [])
        (found (test_admitted (with_budget two_demands 1 0ℚ) (int 10 ∷ int 10 ∷ [])) tt),
    found (test_certificate (with_budget two_demands 1 0ℚ)
        (best (int 20) (int 10 ∷ int 10 ∷ []) (int 20 ∷ [])
        (cover 1 4 1ℚ ∷ cover 1 6 1ℚ ∷ cover 1 8 (int 2) ∷ [])
        (item 0 1ℚ (int 10 ∷ int 10 ∷ []) ∷ item 1 1ℚ (int 10 ∷ int 10 ∷ []) ∷ []))) tt,
  ),
  (
    (
      λ none. none (int 10 ∷ int 10 ∷ [])
          (found (test_admitted (with_budget two_demands 1 1ℚ) (int 10 ∷ int 10 ∷ [])) tt),
      found (test_certificate (with_budget two_demands 1 1ℚ)
          (best (int 22) (int 10 ∷ int 10 ∷ []) (int 22 ∷ [])
          (cover 1 4 1ℚ ∷ cover 1 6 1ℚ ∷ cover 1 8 (int 2) ∷ [])
          (item 0 1ℚ (int 10 ∷ int 10 ∷ []) ∷ item 1 1ℚ (int 12 ∷ int 10 ∷ []) ∷ []))) tt,
    ),
    (
      (
        λ none. none (int 10 ∷ int 10 ∷ [])
            (found (test_admitted (with_budget two_demands 1 (over 3 2)) (int 10 ∷ int 10 ∷ [])) tt),
        found (test_certificate (with_budget two_demands 1 (over 3 2))
            (best (int 23) (int 10 ∷ int 10 ∷ []) (int 23 ∷ [])
            (cover 1 4 1ℚ ∷ cover 1 6 1ℚ ∷ cover 1 8 1ℚ ∷ [])
            (item 0 1ℚ (int 10 ∷ int 10 ∷ []) ∷ item 1 1ℚ (int 12 ∷ int 11 ∷ []) ∷ []))) tt,
      ),
      (
        (
          λ none. none (int 10 ∷ int 10 ∷ [])
              (found (test_admitted (with_budget two_demands 1 (int 2)) (int 10 ∷ int 10 ∷ [])) tt),
          found (test_certificate (with_budget two_demands 1 (int 2))
              (best (int 24) (int 10 ∷ int 10 ∷ []) (int 24 ∷ [])
              (cover 1 1 1ℚ ∷ cover 1 3 1ℚ ∷ [])
              (item 0 1ℚ (int 10 ∷ int 10 ∷ []) ∷ item 1 1ℚ (int 12 ∷ int 12 ∷ []) ∷ []))) tt,
        ),
        tt,
      ),
    ),
  ),
)

-- statement 1 is a budget, and there is no statement 2
statement_1 : IsBudgetAt two_demands.set_lines 1
statement_1 = tt

no_statement_2 : IsBudgetAt two_demands.set_lines 2 → ⊥
no_statement_2 h = h

-- ---- the first member at 13 by 2
abbrev a_centre_outside : RobustModel
a_centre_outside =
    record two_demands { set_lines = budget 1ℚ (around 0 (int 13) (int 2) ∷ around 1 (int 10) (int 2) ∷ []) ∷ [] }

-- at budget 0 the first demand would be 13, over its bound; at 1/2 it is 12, and the second one 10
empty_and_22 : Swept a_centre_outside 1 (0ℚ ∷ over 1 2 ∷ []) (is_empty ∷ is_optimal (int 22) ∷ [])
unfolding ratio
empty_and_22 = (
  found (test_empty_set (with_budget a_centre_outside 1 0ℚ)
      (0ℚ ∷ 1ℚ ∷ 0ℚ ∷ 0ℚ ∷ 0ℚ ∷ 1ℚ ∷ over 1 2 ∷ over 1 2 ∷ int 2 ∷ [])) tt,
  (
    (
      λ none. none (int 12 ∷ int 10 ∷ [])
          (found (test_admitted (with_budget a_centre_outside 1 (over 1 2)) (int 12 ∷ int 10 ∷ [])) tt),
      found (test_certificate (with_budget a_centre_outside 1 (over 1 2))
          (best (int 22) (int 12 ∷ int 10 ∷ []) (int 22 ∷ [])
          (cover 1 1 (int 2) ∷ cover 1 5 1ℚ ∷ cover 1 6 1ℚ ∷ cover 1 8 1ℚ ∷ [])
          (item 0 1ℚ (int 12 ∷ int 10 ∷ []) ∷ item 1 1ℚ (int 12 ∷ int 10 ∷ []) ∷ []))) tt,
    ),
    tt,
  ),
)
