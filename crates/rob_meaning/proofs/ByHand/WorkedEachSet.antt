-- Models in which sets differ in what they admit and in what they judge, worked by hand.
use Rattle.std.proofs.Common.{arith, refl}
use Rattle.std.specs.Prelude.{◌≡◌, zero, suc, List, [], ◌∷◌, Some, None, codes}
use Rattle.rob_algebra.specs.Fraction.{Fraction, ratio, neg_ℚ, ◌≤ℚ◌}
use Rattle.rob_algebra.specs.FractionOrderLaws.{le_trans_ℚ, not_lt_ℚ}
use Rattle.rob_meaning.proofs.Conditions.AdmittedLemmas.{some_admitted_law}
use Rattle.rob_meaning.proofs.ByHand.WorkedNotation.{int, over, ◌⊕◌, ◌⊖◌, uncertain, var, rule, row, cover, item, best, none}
use Rattle.rob_meaning.proofs.ByHand.WorkedTests.{found, test_admits, test_certificate, test_le, test_lt, test_model}
use Rattle.rob_meaning.specs.Expressions.{number, parameter, variable, adaptive, adaptive_in}
use Rattle.rob_meaning.specs.JointMeaning.{AdmitsJointly, HasOneSet, IsJointlyUnbounded}
use Rattle.rob_meaning.specs.Places.{0ℚ, 1ℚ, at}
use Rattle.rob_meaning.specs.RobustModel.{RobustModel, at_most, at_least, equal, line, minimise}
use Rattle.rob_meaning.specs.Status.{IsInfeasible, IsOptimal}
use Rattle.rob_meaning.specs.UncertaintySet.{AdmitsIn, EachSetAdmits, IsEmptySet, part_of}
use Rattle.rob_meaning.specs.WellFormed.{IsModel}

-- ---- d in [8, 12], and d <= 10 over calm; minimise x + d over calm, where x >= d
abbrev a_calm_objective : RobustModel
a_calm_objective = record {
  parameters =
      uncertain (codes "d") (Some (int 8)) (Some (int 12))
      ∷ uncertain (codes "calm.d") (Some (int 8)) (Some (int 12)) ∷ [];
  sets = codes "calm" ∷ [];
  set_lines = line (parameter 1) at_most (number (int 10)) ∷ [];
  line_sets = 1 ∷ [];
  variables = var (codes "x") None None ∷ [];
  adaptives = [];
  sense = minimise;
  objective = variable 0 ⊕ parameter 1;
  objective_set = 1;
  rows = row (codes "hard") (variable 0) at_least (parameter 0) ∷ [];
  row_sets = 0 ∷ [];
}

-- x = 12, which costs 22 where d is 10; in the default set it would be 24
calm_objective_costs_22 : IsOptimal a_calm_objective (int 22)
unfolding ratio
calm_objective_costs_22 =
    found
    (test_certificate a_calm_objective
    (best (int 22) (int 8 ∷ int 8 ∷ []) (int 12 ∷ [])
    (cover 0 4 1ℚ ∷ cover 1 1 1ℚ ∷ [])
    (item 0 1ℚ (int 8 ∷ int 10 ∷ []) ∷ item 1 1ℚ (int 12 ∷ int 8 ∷ []) ∷ [])))
    tt

-- each set admits something, so that it is optimal over joint scenarios too
both_admit_8 : EachSetAdmits a_calm_objective
unfolding ratio
both_admit_8 =
    let model = found (test_model a_calm_objective) tt in
    (some_admitted_law a_calm_objective model).0
    (int 8 ∷ int 8 ∷ [], found (test_admits a_calm_objective model (int 8 ∷ int 8 ∷ [])) tt)

-- ---- d <= 10 over calm, d = 9 over fixed; minimise x + z, where x >= d over calm, and z = d over fixed
abbrev two_named_sets : RobustModel
two_named_sets = record a_calm_objective {
  parameters =
      uncertain (codes "d") (Some (int 8)) (Some (int 12))
      ∷ uncertain (codes "calm.d") (Some (int 8)) (Some (int 12))
      ∷ uncertain (codes "fixed.d") (Some (int 8)) (Some (int 12)) ∷ [];
  sets = codes "calm" ∷ codes "fixed" ∷ [];
  set_lines = line (parameter 1) at_most (number (int 10)) ∷ line (parameter 2) equal (number (int 9)) ∷ [];
  line_sets = 1 ∷ 2 ∷ [];
  variables = var (codes "x") None None ∷ var (codes "z") None None ∷ [];
  objective = variable 0 ⊕ variable 1;
  rows =
      row (codes "soft") (variable 0) at_least (parameter 1) ∷ row (codes "just") (variable 1) equal (parameter 2) ∷ [];
  row_sets = 1 ∷ 2 ∷ [];
}

-- x = 10 and z = 9
two_named_sets_cost_19 : IsOptimal two_named_sets (int 19)
unfolding ratio
two_named_sets_cost_19 =
    found
    (test_certificate two_named_sets
    (best (int 19) (int 8 ∷ int 8 ∷ int 9 ∷ []) (int 10 ∷ int 9 ∷ [])
    (cover 1 6 1ℚ ∷ cover 2 8 1ℚ ∷ cover 3 7 1ℚ ∷ [])
    (item 0 1ℚ (int 8 ∷ int 8 ∷ int 9 ∷ []) ∷ item 1 1ℚ (int 8 ∷ int 10 ∷ int 9 ∷ [])
    ∷ item 3 1ℚ (int 8 ∷ int 8 ∷ int 9 ∷ []) ∷ [])))
    tt

-- ---- with d >= 13 in the default set that is empty, and calm is not
abbrev never_hard : RobustModel
never_hard = record a_calm_objective {
  set_lines = line (parameter 0) at_least (number (int 13)) ∷ [];
  line_sets = 0 ∷ [];
}

hard_admits_nothing : (u : List Fraction) → AdmitsIn never_hard 0 u → ⊥
unfolding ratio
hard_admits_nothing [] h = one_number h.numbers
  where
    one_number : zero ≡ suc zero → ⊥
    one_number e = omega arith
hard_admits_nothing (x ∷ u) h =
    not_lt_ℚ (int 13) (int 12) (le_trans_ℚ (int 13) x (int 12) (h.lines.0 refl) h.bounds.0.1)
    (found (test_lt (int 12) (int 13)) tt)

calm_admits_12 : AdmitsIn never_hard 1 (int 12 ∷ [])
unfolding ratio
calm_admits_12 = record {
  numbers = refl;
  bounds = ((found (test_le (int 8) (int 12)) tt, found (test_le (int 12) (int 12)) tt), tt);
  lines = (λ e. absurd (omega arith), tt);
}

-- one empty set leaves no joint scenario
never_hard_admits_nothing : IsEmptySet never_hard
never_hard_admits_nothing u h = hard_admits_nothing (part_of never_hard 0 u) (h.parts 0 (omega arith))

-- ---- no parameter, and 1 <= 0 over calm
abbrev a_false_statement : RobustModel
a_false_statement = record a_calm_objective {
  parameters = [];
  set_lines = line (number 1ℚ) at_most (number 0ℚ) ∷ [];
  objective = variable 0;
  rows = [];
  row_sets = [];
}

false_statement_is_a_model : IsModel a_false_statement
unfolding ratio
false_statement_is_a_model = found (test_model a_false_statement) tt

-- the default set admits the empty scenario, and calm none
the_default_set_admits_it : AdmitsIn a_false_statement 0 []
the_default_set_admits_it = record { numbers = refl; bounds = tt; lines = (λ e. absurd (omega arith), tt) }

calm_admits_none : (u : List Fraction) → AdmitsIn a_false_statement 1 u → ⊥
unfolding ratio
calm_admits_none u h = not_lt_ℚ 1ℚ 0ℚ (h.lines.0 refl) (found (test_lt 0ℚ 1ℚ) tt)

false_statement_admits_nothing : IsEmptySet a_false_statement
false_statement_admits_nothing u h = calm_admits_none (part_of a_false_statement 1 u) (h.parts 1 (omega arith))

-- ---- d in [0, 10], and d >= 5 in the default set; minimise y(d) >= 0, where y <= d - 3 over wide
abbrev a_bound_in_the_default_set : RobustModel
a_bound_in_the_default_set = record a_calm_objective {
  parameters =
      uncertain (codes "d") (Some 0ℚ) (Some (int 10)) ∷ uncertain (codes "wide.d") (Some 0ℚ) (Some (int 10)) ∷ [];
  sets = codes "wide" ∷ [];
  set_lines = line (parameter 0) at_least (number (int 5)) ∷ [];
  line_sets = 0 ∷ [];
  variables = [];
  adaptives = rule (codes "y") (0 ∷ []) (Some 0ℚ) ∷ [];
  objective = adaptive 0;
  objective_set = 0;
  rows = row (codes "u") (adaptive_in 0 1) at_most (parameter 1 ⊖ number (int 3)) ∷ [];
  row_sets = 1 ∷ [];
}

-- y = 3/5 d - 3 is 0 at 5, and 3 at 10; at 0, which wide alone admits, it is -3
bound_in_the_default_set_costs_3 : IsOptimal a_bound_in_the_default_set (int 3)
unfolding ratio
bound_in_the_default_set_costs_3 =
    found
    (test_certificate a_bound_in_the_default_set
    (best (int 3) (int 5 ∷ int 0 ∷ []) (neg_ℚ (int 3) ∷ over 3 5 ∷ [])
    (cover 0 1 (over 3 5) ∷ cover 1 2 (over 2 5) ∷ cover 2 4 (over 3 5) ∷ [])
    (item 0 1ℚ (int 10 ∷ int 0 ∷ []) ∷ item 1 1ℚ (int 5 ∷ int 0 ∷ []) ∷ item 2 (int 2) (int 5 ∷ int 0 ∷ []) ∷ [])))
    tt

-- with y >= 0 over wide too no plan is left: at 0 it would be at most -3
abbrev a_bound_in_both_sets : RobustModel
a_bound_in_both_sets = record a_bound_in_the_default_set {
  rows =
      row (codes "u") (adaptive_in 0 1) at_most (parameter 1 ⊖ number (int 3))
      ∷ row (codes "lo") (adaptive_in 0 1) at_least (number 0ℚ) ∷ [];
  row_sets = 1 ∷ 1 ∷ [];
}

bound_in_both_sets_is_infeasible : IsInfeasible a_bound_in_both_sets
unfolding ratio
bound_in_both_sets_is_infeasible =
    found
    (test_certificate a_bound_in_both_sets
    (none (int 5 ∷ int 0 ∷ []) (item 1 1ℚ (int 5 ∷ int 0 ∷ []) ∷ item 2 1ℚ (int 5 ∷ int 0 ∷ []) ∷ [])))
    tt

-- ---- no named set, d in [2, 1] and x in [2, 1]: here alone the plain words differ
abbrev nothing_between : RobustModel
nothing_between = record {
  parameters = uncertain (codes "d") (Some (int 2)) (Some (int 1)) ∷ [];
  sets = [];
  set_lines = [];
  line_sets = [];
  variables = var (codes "x") (Some (int 2)) (Some (int 1)) ∷ [];
  adaptives = [];
  sense = minimise;
  objective = variable 0;
  objective_set = 0;
  rows = [];
  row_sets = [];
}

nothing_between_has_one_set : HasOneSet nothing_between
nothing_between_has_one_set = record { sets = refl; lines = tt; rows = tt; objective = refl }

not_between : (x : Fraction) → int 2 ≤ℚ x → x ≤ℚ int 1 → ⊥
unfolding ratio
not_between x l u = not_lt_ℚ (int 2) (int 1) (le_trans_ℚ (int 2) x (int 1) l u) (found (test_lt (int 1) (int 2)) tt)

-- no scenario is admitted, and still no plan has a bound, since none keeps the bounds of x
nothing_between_is_infeasible : IsInfeasible nothing_between
nothing_between_is_infeasible plan tau h = not_between (at plan 0) h.variables.0.0 h.variables.0.1

-- in the plain words each plan has each bound
nothing_between_is_jointly_unbounded : IsJointlyUnbounded nothing_between
nothing_between_is_jointly_unbounded tau = (0ℚ ∷ [], record { columns = refl; keeps = λ u h. absurd (no_scenario u h) })
  where
    no_scenario : (u : List Fraction) → AdmitsJointly nothing_between u → ⊥
    no_scenario u h = not_between (at u 0) h.bounds.0.0 h.bounds.0.1
