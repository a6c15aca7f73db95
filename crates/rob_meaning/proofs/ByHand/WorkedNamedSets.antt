-- Models with named sets, worked by hand.
use Rattle.std.proofs.Common.{refl, subst, arith}
use Rattle.std.specs.Fmt.{digits}
use Rattle.std.specs.Prelude.{◌≡◌, ◌≢◌, ℕ, zero, suc, pos, negsuc, map, List, [], ◌∷◌, Some, None, codes}
use Rattle.rob_algebra.specs.Fraction.{Fraction, ratio, ◌<ℚ◌}
use Rattle.rob_algebra.specs.FractionOrderLaws.{lt_irrefl_ℚ}
use Rattle.rob_meaning.proofs.Conditions.EmptyInLemmas.{shows_empty_in}
use Rattle.rob_meaning.proofs.Conditions.EmptyLemmas.{shows_empty}
use Rattle.rob_meaning.proofs.Lists.LinearLemmas.{zero_lt_one}
use Rattle.rob_meaning.proofs.ByHand.WorkedNotation.{int, ◌⊕◌, uncertain, var, rule, around, row, cover, item, best, none}
use Rattle.rob_meaning.proofs.ByHand.WorkedTests.{found, test_certificate, test_empty, test_model}
use Rattle.rob_meaning.specs.Expressions.{number, parameter, variable, adaptive, adaptive_in}
use Rattle.rob_meaning.specs.Forms.{matrices}
use Rattle.rob_meaning.specs.Multipliers.{ShowsEmptyIn}
use Rattle.rob_meaning.specs.Names.{column_names_with_tau, form_names, set_row_names, set_column_names, set_condition_names}
use Rattle.rob_meaning.specs.Places.{0ℚ, 1ℚ, at}
use Rattle.rob_meaning.specs.RobustModel.{RobustModel, at_most, at_least, equal, line, budget, minimise}
use Rattle.rob_meaning.specs.SetRows.{set_of_set_row, set_row_sets, set_rows, whole_row, whole_limit}
use Rattle.rob_meaning.specs.Status.{IsInfeasible, IsOptimal}
use Rattle.rob_meaning.specs.UncertaintySet.{IsEmptyIn, IsEmptySet}
use Rattle.rob_meaning.specs.WellFormed.{IsModel}

-- ---- d in [8, 12], and d <= 10 over calm; minimise x + z where x >= d, and z >= d over calm
abbrev hard_and_soft : RobustModel
hard_and_soft = record {
  parameters =
      uncertain (codes "d") (Some (int 8)) (Some (int 12))
      ∷ uncertain (codes "calm.d") (Some (int 8)) (Some (int 12)) ∷ [];
  sets = codes "calm" ∷ [];
  set_lines = line (parameter 1) at_most (number (int 10)) ∷ [];
  line_sets = 1 ∷ [];
  variables = var (codes "x") None None ∷ var (codes "z") None None ∷ [];
  adaptives = [];
  sense = minimise;
  objective = variable 0 ⊕ variable 1;
  objective_set = 0;
  rows =
      row (codes "hard") (variable 0) at_least (parameter 0)
      ∷ row (codes "soft") (variable 1) at_least (parameter 1) ∷ [];
  row_sets = 0 ∷ 1 ∷ [];
}

-- x = 12 and z = 10
hard_and_soft_costs_22 : IsOptimal hard_and_soft (int 22)
unfolding ratio
hard_and_soft_costs_22 =
    found
    (test_certificate hard_and_soft
    (best (int 22) (int 8 ∷ int 8 ∷ []) (int 12 ∷ int 10 ∷ [])
    (cover 1 1 1ℚ ∷ cover 2 4 1ℚ ∷ [])
    (item 0 1ℚ (int 12 ∷ int 10 ∷ []) ∷ item 1 1ℚ (int 12 ∷ int 10 ∷ []) ∷ item 2 1ℚ (int 12 ∷ int 10 ∷ []) ∷ [])))
    tt

-- -d <= -8, d <= 12, -calm.d <= -8, calm.d <= 12, calm.d <= 10
its_set_rows : map (whole_row hard_and_soft) (set_rows hard_and_soft) ≡
    (negsuc 0 ∷ pos 0 ∷ []) ∷ (pos 1 ∷ pos 0 ∷ []) ∷ (pos 0 ∷ negsuc 0 ∷ []) ∷ (pos 0 ∷ pos 1 ∷ [])
    ∷ (pos 0 ∷ pos 1 ∷ []) ∷ []
unfolding ratio
its_set_rows = refl

its_limits : map (whole_limit hard_and_soft) (set_rows hard_and_soft) ≡
    negsuc 7 ∷ pos 12 ∷ negsuc 7 ∷ pos 12 ∷ pos 10 ∷ []
unfolding ratio
its_limits = refl

-- d has the first two, calm.d the others
its_row_sets : set_row_sets hard_and_soft ≡ 0 ∷ 0 ∷ 1 ∷ 1 ∷ 1 ∷ []
its_row_sets = refl

-- an equality has two rows
abbrev calm_at_nine : RobustModel
calm_at_nine = record hard_and_soft { set_lines = line (parameter 1) equal (number (int 9)) ∷ [] }

its_row_sets_at_nine : set_row_sets calm_at_nine ≡ 0 ∷ 0 ∷ 1 ∷ 1 ∷ 1 ∷ 1 ∷ []
its_row_sets_at_nine = refl

-- without a named set each row belongs to the default set
abbrev hard_alone : RobustModel
hard_alone = record hard_and_soft {
  parameters = uncertain (codes "d") (Some (int 8)) (Some (int 12)) ∷ [];
  sets = [];
  set_lines = line (parameter 0) at_most (number (int 10)) ∷ [];
  line_sets = 0 ∷ [];
  rows = row (codes "hard") (variable 0) at_least (parameter 0) ∷ [];
  row_sets = 0 ∷ [];
}

hard_alone_model : IsModel hard_alone
unfolding ratio
hard_alone_model = found (test_model hard_alone) tt

its_row_sets_alone : set_row_sets hard_alone ≡ 0 ∷ 0 ∷ 0 ∷ []
its_row_sets_alone = refl

-- rows: the constant, d, calm.d; columns: the constant, x, z, tau
its_matrices : matrices hard_and_soft ≡
    ((pos 0 ∷ pos 1 ∷ pos 1 ∷ negsuc 0 ∷ []) ∷ (pos 0 ∷ pos 0 ∷ pos 0 ∷ pos 0 ∷ [])
    ∷ (pos 0 ∷ pos 0 ∷ pos 0 ∷ pos 0 ∷ []) ∷ [])
    ∷ ((pos 0 ∷ negsuc 0 ∷ pos 0 ∷ pos 0 ∷ []) ∷ (pos 1 ∷ pos 0 ∷ pos 0 ∷ pos 0 ∷ [])
    ∷ (pos 0 ∷ pos 0 ∷ pos 0 ∷ pos 0 ∷ []) ∷ [])
    ∷ ((pos 0 ∷ pos 0 ∷ negsuc 0 ∷ pos 0 ∷ []) ∷ (pos 0 ∷ pos 0 ∷ pos 0 ∷ pos 0 ∷ [])
    ∷ (pos 1 ∷ pos 0 ∷ pos 0 ∷ pos 0 ∷ []) ∷ [])
    ∷ []
unfolding ratio
its_matrices = refl

its_form_names : form_names hard_and_soft ≡ codes "objective" ∷ codes "hard" ∷ codes "soft" ∷ []
its_form_names = refl

its_set_row_names : set_row_names hard_and_soft ≡
    codes "d.lower" ∷ codes "d.upper" ∷ codes "calm.d.lower" ∷ codes "calm.d.upper" ∷ codes "set.1" ∷ []
unfolding digits
its_set_row_names = refl

its_set_column_names : set_column_names hard_and_soft ≡ codes "d" ∷ codes "calm.d" ∷ []
unfolding digits
its_set_column_names = refl

-- with d >= 13 over calm that set is empty: calm.d <= 12 and -calm.d <= -13 sum to 0 <= -1
abbrev never_calm : RobustModel
never_calm = record hard_and_soft { set_lines = line (parameter 1) at_least (number (int 13)) ∷ [] }

never_calm_admits_nothing : IsEmptySet never_calm
unfolding ratio
never_calm_admits_nothing =
    shows_empty never_calm (found (test_model never_calm) tt) (0ℚ ∷ 0ℚ ∷ 0ℚ ∷ 1ℚ ∷ 1ℚ ∷ [])
    (found (test_empty never_calm (0ℚ ∷ 0ℚ ∷ 0ℚ ∷ 1ℚ ∷ 1ℚ ∷ [])) tt)

-- both weights belong to rows of set 1, so that it is calm that admits nothing
abbrev calm_weights : List Fraction
calm_weights = 0ℚ ∷ 0ℚ ∷ 0ℚ ∷ 1ℚ ∷ 1ℚ ∷ []

they_are_calm : (i : ℕ) → at calm_weights i ≢ 0ℚ → set_of_set_row never_calm i ≡ 1
they_are_calm zero some = absurd (some refl)
they_are_calm (suc zero) some = absurd (some refl)
they_are_calm (suc (suc zero)) some = absurd (some refl)
they_are_calm (suc (suc (suc zero))) some = refl
they_are_calm (suc (suc (suc (suc zero)))) some = refl
they_are_calm (suc (suc (suc (suc (suc i))))) some = absurd (some refl)

they_show_calm_empty : ShowsEmptyIn never_calm 1 calm_weights
unfolding ratio
they_show_calm_empty =
    record { is_set = omega arith; shows = found (test_empty never_calm calm_weights) tt; own = they_are_calm }

-- they say nothing of the default set
they_are_not_hard : ShowsEmptyIn never_calm 0 calm_weights → ⊥
they_are_not_hard h = zero_or_one (h.own 3 one_is_some)
  where
    zero_or_one : suc zero ≡ zero → ⊥
    zero_or_one e = omega arith

    one_is_some : 1ℚ ≢ 0ℚ
    one_is_some e = lt_irrefl_ℚ 0ℚ (subst (λ x. 0ℚ <ℚ x) e zero_lt_one)

calm_admits_nothing : IsEmptyIn never_calm 1
unfolding ratio
calm_admits_nothing = shows_empty_in never_calm (found (test_model never_calm) tt) 1 calm_weights they_show_calm_empty

-- ---- the same sets; minimise y(d) where y >= d, and y <= 11 over calm
abbrev a_rule_in_two_sets : RobustModel
a_rule_in_two_sets = record hard_and_soft {
  variables = [];
  adaptives = rule (codes "y") (0 ∷ []) None ∷ [];
  objective = adaptive 0;
  rows =
      row (codes "lo") (adaptive 0) at_least (parameter 0)
      ∷ row (codes "hi") (adaptive_in 0 1) at_most (number (int 11)) ∷ [];
}

-- y = d is 12 at most, and 10 at most where it is calm
rule_in_two_sets_costs_12 : IsOptimal a_rule_in_two_sets (int 12)
unfolding ratio
rule_in_two_sets_costs_12 =
    found
    (test_certificate a_rule_in_two_sets
    (best (int 12) (int 8 ∷ int 8 ∷ []) (0ℚ ∷ 1ℚ ∷ [])
    (cover 0 1 1ℚ ∷ cover 2 4 1ℚ ∷ [])
    (item 0 1ℚ (int 12 ∷ int 10 ∷ []) ∷ item 1 1ℚ (int 12 ∷ int 10 ∷ []) ∷ [])))
    tt

-- rows: the constant, d, calm.d; columns: the constant, y, y.d, tau
its_rule_matrices : matrices a_rule_in_two_sets ≡
    ((pos 0 ∷ pos 1 ∷ pos 0 ∷ negsuc 0 ∷ []) ∷ (pos 0 ∷ pos 0 ∷ pos 1 ∷ pos 0 ∷ [])
    ∷ (pos 0 ∷ pos 0 ∷ pos 0 ∷ pos 0 ∷ []) ∷ [])
    ∷ ((pos 0 ∷ negsuc 0 ∷ pos 0 ∷ pos 0 ∷ []) ∷ (pos 1 ∷ pos 0 ∷ negsuc 0 ∷ pos 0 ∷ [])
    ∷ (pos 0 ∷ pos 0 ∷ pos 0 ∷ pos 0 ∷ []) ∷ [])
    ∷ ((negsuc 10 ∷ pos 1 ∷ pos 0 ∷ pos 0 ∷ []) ∷ (pos 0 ∷ pos 0 ∷ pos 0 ∷ pos 0 ∷ [])
    ∷ (pos 0 ∷ pos 0 ∷ pos 1 ∷ pos 0 ∷ []) ∷ [])
    ∷ []
unfolding ratio
its_rule_matrices = refl

-- y is decided now: lo at d = 12 and hi sum to 1 <= 0
abbrev no_rule_in_two_sets : RobustModel
no_rule_in_two_sets = record a_rule_in_two_sets { adaptives = rule (codes "y") [] None ∷ [] }

no_rule_in_two_sets_is_infeasible : IsInfeasible no_rule_in_two_sets
unfolding ratio
no_rule_in_two_sets_is_infeasible =
    found
    (test_certificate no_rule_in_two_sets
    (none (int 8 ∷ int 8 ∷ []) (item 1 1ℚ (int 12 ∷ int 8 ∷ []) ∷ item 2 1ℚ (int 12 ∷ int 8 ∷ []) ∷ [])))
    tt

-- ---- a budget over calm: its members are joint parameters
abbrev a_calm_budget : RobustModel
a_calm_budget = record hard_and_soft { set_lines = budget 1ℚ (around 1 (int 10) (int 2) ∷ []) ∷ [] }

its_budget_names : set_row_names a_calm_budget ≡
    codes "d.lower" ∷ codes "d.upper" ∷ codes "calm.d.lower" ∷ codes "calm.d.upper" ∷ codes "budget.1.calm.d.up"
    ∷ codes "budget.1.calm.d.down" ∷ codes "budget.1.sum" ∷ []
unfolding digits
its_budget_names = refl

its_budget_row_sets : set_row_sets a_calm_budget ≡ 0 ∷ 0 ∷ 1 ∷ 1 ∷ 1 ∷ 1 ∷ 1 ∷ []
its_budget_row_sets = refl

its_budget_columns : set_column_names a_calm_budget ≡ codes "d" ∷ codes "calm.d" ∷ codes "t.1.calm.d" ∷ []
unfolding digits
its_budget_columns = refl

its_column_names : column_names_with_tau a_rule_in_two_sets ≡ codes "y" ∷ codes "y.d" ∷ codes "tau" ∷ []
its_column_names = refl

its_condition_names : set_condition_names a_calm_budget ≡
    codes "d.lower" ∷ codes "d.upper" ∷ codes "calm.d.lower" ∷ codes "calm.d.upper" ∷ codes "budget.1" ∷ []
unfolding digits
its_condition_names = refl
