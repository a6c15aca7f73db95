-- Uncertainty sets, orders and names, worked by hand.
use Rattle.std.proofs.Common.{arith, refl}
use Rattle.std.specs.Fmt.{digits}
use Rattle.std.specs.Prelude.{◌≡◌, ◌<◌, ◌≤◌, ℕ, zero, suc, List, length, pos, negsuc, map, [], ◌∷◌, Some, None, codes}
use Rattle.rob_algebra.specs.Fraction.{Fraction, ratio}
use Rattle.rob_algebra.specs.FractionOrderLaws.{not_lt_ℚ}
use Rattle.rob_meaning.proofs.Conditions.AdmittedLemmas.{admits_jointly, jointly_admits, one_set_law}
use Rattle.rob_meaning.proofs.Conditions.EmptyLemmas.{shows_empty}
use Rattle.rob_meaning.proofs.ByHand.WorkedNotation.{int, over, times, uncertain, var, rule, around, row}
use Rattle.rob_meaning.proofs.Naming.NamedLemmas.{plain_word}
use Rattle.rob_meaning.proofs.ByHand.WorkedTests.{found, test_differ, test_lt, test_model, test_meets, test_admits, test_empty}
use Rattle.rob_meaning.specs.Degrees.{IsLinear}
use Rattle.rob_meaning.specs.Expressions.{number, parameter, variable, adaptive}
use Rattle.rob_meaning.specs.Forms.{difference, forms, matrices}
use Rattle.rob_meaning.specs.Guarantee.{KeepsIn}
use Rattle.rob_meaning.specs.Named.{IsNamed}
use Rattle.rob_meaning.specs.Names.{column_names, column_names_with_tau, form_names, set_row_names, set_column_names, set_condition_names}
use Rattle.rob_meaning.specs.Places.{0ℚ, 1ℚ}
use Rattle.rob_meaning.specs.RobustModel.{RobustModel, at_most, at_least, equal, line, budget, minimise, maximise}
use Rattle.rob_meaning.specs.SetConditions.{IsRay}
use Rattle.rob_meaning.specs.SetRows.{set_rows, whole_row, whole_limit}
use Rattle.rob_meaning.specs.Status.{IsUnbounded}
use Rattle.rob_meaning.specs.UncertaintySet.{Admits, AdmitsIn, IsEmptySet}
use Rattle.rob_meaning.specs.Values.{value}
use Rattle.rob_meaning.specs.WellFormed.{IsModel}

-- ---- d in [3, 2]
abbrev an_empty_interval : RobustModel
an_empty_interval = record {
  parameters = uncertain (codes "d") (Some (int 3)) (Some (int 2)) ∷ [];
  set_lines = [];
  variables = var (codes "x") None None ∷ [];
  adaptives = [];
  sets = [];
  line_sets = [];
  objective_set = 0;
  row_sets = [];
  sense = minimise;
  objective = variable 0;
  rows = [];
}

-- -d <= -3 and d <= 2 sum to 0 <= -1
empty_interval_admits_nothing : IsEmptySet an_empty_interval
unfolding ratio
empty_interval_admits_nothing =
    shows_empty an_empty_interval (found (test_model an_empty_interval) tt) (1ℚ ∷ 1ℚ ∷ [])
    (found (test_empty an_empty_interval (1ℚ ∷ 1ℚ ∷ [])) tt)

empty_interval_is_a_model : IsModel an_empty_interval
unfolding ratio
empty_interval_is_a_model = found (test_model an_empty_interval) tt

-- so each plan has each bound, and the model is unbounded
empty_interval_is_unbounded : IsUnbounded an_empty_interval
empty_interval_is_unbounded tau = (0ℚ ∷ [], record { columns = refl; keeps = none; variables = ((tt, tt), tt) })
  where
    none : (S : ℕ) → S < 1 → (u : List Fraction) → AdmitsIn an_empty_interval S u
        → KeepsIn an_empty_interval (0ℚ ∷ []) tau S u
    none zero some u h =
        absurd (empty_interval_admits_nothing u
        (jointly_admits an_empty_interval empty_interval_is_a_model u
        ((one_set_law an_empty_interval empty_interval_is_a_model refl u).0 h)))
    none (suc S) some u h = absurd (omega arith)

-- ---- no parameter
abbrev nothing_uncertain : RobustModel
nothing_uncertain = record an_empty_interval { parameters = [] }

-- one scenario is admitted, the empty one
empty_scenario_is_admitted : Admits nothing_uncertain []
empty_scenario_is_admitted = found (test_admits nothing_uncertain (found (test_model nothing_uncertain) tt) []) tt

no_other_scenario : (u : List Fraction) → Admits nothing_uncertain u → u ≡ []
no_other_scenario [] h = refl
no_other_scenario (x ∷ u) h = absurd (some (length u) h.numbers)
  where
    some : (n : ℕ) → suc n ≡ 0 → ⊥
    some n e = omega arith

-- ---- |d - 1/2| <= 0
abbrev a_budget_of_0 : RobustModel
a_budget_of_0 = record an_empty_interval {
  parameters = uncertain (codes "d") None None ∷ [];
  set_lines = budget 0ℚ (around 0 (over 1 2) 1ℚ ∷ []) ∷ [];
}

-- the centre is admitted, and no other number
centre_is_admitted : Admits a_budget_of_0 (over 1 2 ∷ [])
unfolding ratio
centre_is_admitted = found (test_admits a_budget_of_0 (found (test_model a_budget_of_0) tt) (over 1 2 ∷ [])) tt

one_is_not_admitted : Admits a_budget_of_0 (1ℚ ∷ []) → ⊥
unfolding ratio
one_is_not_admitted h =
    not_lt_ℚ (over 1 2) 0ℚ (admits_jointly a_budget_of_0 (found (test_model a_budget_of_0) tt) (1ℚ ∷ []) h).lines.0
    (found (test_lt 0ℚ (over 1 2)) tt)

-- a ray is 0 in a budget's member
zero_is_a_ray : IsRay a_budget_of_0 (0ℚ ∷ [])
unfolding ratio
zero_is_a_ray = found (test_meets a_budget_of_0 0ℚ (0ℚ ∷ [])) tt

one_is_no_ray : IsRay a_budget_of_0 (1ℚ ∷ []) → ⊥
unfolding ratio
one_is_no_ray h = not_lt_ℚ 1ℚ 0ℚ h.conditions.0 (found (test_lt 0ℚ 1ℚ) tt)

-- ---- d in [8, 12], |d - 10| / 2 <= 3/2; minimise y(d)/2 where y >= d, y >= 0
abbrev a_rule_under_a_budget : RobustModel
a_rule_under_a_budget = record {
  parameters = uncertain (codes "d") (Some (int 8)) (Some (int 12)) ∷ [];
  set_lines = budget (over 3 2) (around 0 (int 10) (int 2) ∷ []) ∷ [];
  variables = [];
  adaptives = rule (codes "y") (0 ∷ []) (Some 0ℚ) ∷ [];
  sets = [];
  line_sets = [];
  objective_set = 0;
  row_sets = [];
  sense = minimise;
  objective = times (number (over 1 2)) (adaptive 0);
  rows = row (codes "lo") (adaptive 0) at_least (parameter 0) ∷ [];
}

-- rows: the constant, d; columns: the constant, y, y.d, tau
its_matrices : matrices a_rule_under_a_budget ≡
    ((pos 0 ∷ pos 1 ∷ pos 0 ∷ negsuc 1 ∷ []) ∷ (pos 0 ∷ pos 0 ∷ pos 1 ∷ pos 0 ∷ []) ∷ [])
    ∷ ((pos 0 ∷ negsuc 0 ∷ pos 0 ∷ pos 0 ∷ []) ∷ (pos 1 ∷ pos 0 ∷ negsuc 0 ∷ pos 0 ∷ []) ∷ [])
    ∷ ((pos 0 ∷ negsuc 0 ∷ pos 0 ∷ pos 0 ∷ []) ∷ (pos 0 ∷ pos 0 ∷ negsuc 0 ∷ pos 0 ∷ []) ∷ [])
    ∷ []
unfolding ratio
its_matrices = refl

-- -d <= -8, d <= 12, d - 2t <= 10, -d - 2t <= -10, 2t <= 3
its_set_rows : map (whole_row a_rule_under_a_budget) (set_rows a_rule_under_a_budget) ≡
    (negsuc 0 ∷ pos 0 ∷ []) ∷ (pos 1 ∷ pos 0 ∷ []) ∷ (pos 1 ∷ negsuc 1 ∷ []) ∷ (negsuc 0 ∷ negsuc 1 ∷ []) ∷ (pos
    0 ∷ pos 2 ∷ []) ∷ []
unfolding ratio
its_set_rows = refl

its_limits : map (whole_limit a_rule_under_a_budget) (set_rows a_rule_under_a_budget) ≡
    negsuc 7 ∷ pos 12 ∷ pos 10 ∷ negsuc 9 ∷ pos 3 ∷ []
unfolding ratio
its_limits = refl

its_column_names : column_names_with_tau a_rule_under_a_budget ≡ codes "y" ∷ codes "y.d" ∷ codes "tau" ∷ []
its_column_names = refl

its_form_names : form_names a_rule_under_a_budget ≡ codes "objective" ∷ codes "lo" ∷ codes "y.lower" ∷ []
its_form_names = refl

its_set_row_names : set_row_names a_rule_under_a_budget ≡
    codes "d.lower" ∷ codes "d.upper" ∷ codes "budget.1.d.up" ∷ codes "budget.1.d.down" ∷ codes "budget.1.sum" ∷ []
unfolding digits
its_set_row_names = refl

its_set_column_names : set_column_names a_rule_under_a_budget ≡ codes "d" ∷ codes "t.1.d" ∷ []
unfolding digits
its_set_column_names = refl

its_set_condition_names : set_condition_names a_rule_under_a_budget
    ≡ codes "d.lower" ∷ codes "d.upper" ∷ codes "budget.1" ∷ []
unfolding digits
its_set_condition_names = refl

-- its names are plain, free and distinct
its_names_are_kept : IsNamed a_rule_under_a_budget
its_names_are_kept = record {
  plain = (plain_word (codes "d") refl, (plain_word (codes "lo") refl, (plain_word (codes "y") refl, tt)));
  free = (
    (
      found (test_differ (codes "d") (codes "objective")) tt,
      found (test_differ (codes "d") (codes "tau")) tt,
      found (test_differ (codes "d") (codes "set")) tt,
      found (test_differ (codes "d") (codes "budget")) tt,
    ),
    (
      (
        found (test_differ (codes "lo") (codes "objective")) tt,
        found (test_differ (codes "lo") (codes "tau")) tt,
        found (test_differ (codes "lo") (codes "set")) tt,
        found (test_differ (codes "lo") (codes "budget")) tt,
      ),
      (
        (
          found (test_differ (codes "y") (codes "objective")) tt,
          found (test_differ (codes "y") (codes "tau")) tt,
          found (test_differ (codes "y") (codes "set")) tt,
          found (test_differ (codes "y") (codes "budget")) tt,
        ),
        tt,
      ),
    ),
  );
  distinct = (
    (found (test_differ (codes "d") (codes "lo")) tt, (found (test_differ (codes "d") (codes "y")) tt, tt)),
    ((found (test_differ (codes "lo") (codes "y")) tt, tt), (tt, tt)),
  );
  lists = ((tt, tt), tt);
  members = ((tt, tt), tt);
  few = omega arith;
}

-- 3/2 as the constant and 1/2 as the coefficient: y(10) = 3/2 + 10/2
its_value : value a_rule_under_a_budget (over 3 2 ∷ over 1 2 ∷ []) (int 10 ∷ []) (adaptive 0) ≡ over 13 2
unfolding ratio
its_value = refl

-- ---- every kind of form: columns x0, x1, y0, y0.d, y1
abbrev every_kind_of_form : RobustModel
every_kind_of_form = record {
  parameters = uncertain (codes "d") None None ∷ [];
  set_lines =
      line (parameter 0) at_most (number 1ℚ) ∷ line (parameter 0) equal (number 0ℚ)
      ∷ budget 1ℚ (around 0 0ℚ 1ℚ ∷ []) ∷ line (parameter 0) at_least (number 0ℚ) ∷ [];
  variables = var (codes "x0") None (Some 1ℚ) ∷ var (codes "x1") (Some 0ℚ) (Some 1ℚ) ∷ [];
  adaptives =
      rule (codes "y0") (0 ∷ []) None
      ∷ record { name = codes "y1"; on = []; lower = Some (over 1 2); upper = Some 1ℚ } ∷ [];
  sets = [];
  line_sets = [];
  objective_set = 0;
  row_sets = [];
  sense = maximise;
  objective = variable 0;
  rows = row (codes "r") (variable 0) equal (adaptive 0) ∷ row (codes "q") (variable 1) at_most (adaptive 1) ∷ [];
}

-- the objective, rows with an equality as two, bounds of variables, bounds of adaptive variables; tau is variable 5
forms_in_order : forms every_kind_of_form ≡
    difference (variable 5) (variable 0)
    ∷ difference (variable 0) (adaptive 0) ∷ difference (adaptive 0) (variable 0) ∷ difference (variable 1) (adaptive 1)
    ∷ difference (variable 0) (number 1ℚ) ∷ difference (number 0ℚ) (variable 1) ∷ difference (variable 1) (number 1ℚ)
    ∷ difference (number (over 1 2)) (adaptive 1) ∷ difference (adaptive 1) (number 1ℚ) ∷ []
forms_in_order = refl

form_names_in_order : form_names every_kind_of_form ≡
    codes "objective" ∷ codes "r.le" ∷ codes "r.ge" ∷ codes "q"
    ∷ codes "x0.upper" ∷ codes "x1.lower" ∷ codes "x1.upper" ∷ codes "y1.lower" ∷ codes "y1.upper" ∷ []
form_names_in_order = refl

column_names_in_order : column_names every_kind_of_form ≡
    codes "x0" ∷ codes "x1" ∷ codes "y0" ∷ codes "y0.d" ∷ codes "y1" ∷ []
column_names_in_order = refl

-- set lines and budgets are counted together
set_row_names_in_order : set_row_names every_kind_of_form ≡
    codes "set.1" ∷ codes "set.2.le" ∷ codes "set.2.ge"
    ∷ codes "budget.3.d.up" ∷ codes "budget.3.d.down" ∷ codes "budget.3.sum" ∷ codes "set.4" ∷ []
unfolding digits
set_row_names_in_order = refl

-- ---- degrees: y(d) times d, d times d, and x times x are refused
two_is_over_1 : 2 ≤ 1 → ⊥
two_is_over_1 h = omega arith

rule_times_parameter : IsLinear every_kind_of_form (times (parameter 0) (adaptive 0)) → ⊥
rule_times_parameter h = two_is_over_1 h.0

two_parameters : IsLinear every_kind_of_form (times (parameter 0) (parameter 0)) → ⊥
two_parameters h = two_is_over_1 h.0

two_variables : IsLinear every_kind_of_form (times (variable 0) (variable 1)) → ⊥
two_variables h = two_is_over_1 h.1

-- a rule on nothing times a parameter is allowed
empty_rule_times_parameter : IsLinear every_kind_of_form (times (parameter 0) (adaptive 1))
empty_rule_times_parameter = (omega arith, omega arith, (tt, (tt, tt)))
