use Rattle.std.proofs.Common.{rules}
use Rattle.rob_syntax.proofs.Fronts.StatementLemmas.{line_refused, no_keyword, is_goal_of, is_uncertain, no_uncertain, is_variable, no_variable, is_over, no_over, is_set, no_set, is_budget, no_budget, is_adaptive, no_adaptive, is_minimise, no_minimise, is_maximise, no_maximise, is_row, no_row, no_within, no_at, no_by, no_sum, no_for, no_to, no_model, no_unused}
use Rattle.rob_syntax.proofs.indexed.statement.read_line.Goals as goal

pub returns-in_err-declared-in-Uncertain : goal.returns-in_err-declared-in-Uncertain
returns-in_err-declared-in-Uncertain c = search (rules, line_refused, no_uncertain)

pub returns-in_ok-declared-in-Uncertain : goal.returns-in_ok-declared-in-Uncertain
returns-in_ok-declared-in-Uncertain c =
    record { read = is_uncertain c.in-Some.ensures.read c.in-Uncertain.is c.in_ok-declared-in-Uncertain.ensures.read }

pub returns-in_err-declared-in-Var : goal.returns-in_err-declared-in-Var
returns-in_err-declared-in-Var c = search (rules, line_refused, no_variable)

pub returns-in_ok-declared-in-Var : goal.returns-in_ok-declared-in-Var
returns-in_ok-declared-in-Var c =
    record { read = is_variable c.in-Some.ensures.read c.in-Var.is c.in_ok-declared-in-Var.ensures.read }

pub returns-in_err-named-in-Over : goal.returns-in_err-named-in-Over
returns-in_err-named-in-Over c = search (rules, line_refused, no_over)

pub returns-in_ok-named-in-Over : goal.returns-in_ok-named-in-Over
returns-in_ok-named-in-Over c =
    record { read = is_over c.in-Some.ensures.read c.in-Over.is c.in_ok-named-in-Over.ensures.read }

pub returns-in_err-related-in-Set : goal.returns-in_err-related-in-Set
returns-in_err-related-in-Set c = search (rules, line_refused, no_set)

pub returns-in_ok-related-in-Set : goal.returns-in_ok-related-in-Set
returns-in_ok-related-in-Set c = search (rules, is_set)

pub returns-in_err-budget-in-Budget : goal.returns-in_err-budget-in-Budget
returns-in_err-budget-in-Budget c = search (rules, line_refused, no_budget)

pub returns-in_ok-budget-in-Budget : goal.returns-in_ok-budget-in-Budget
returns-in_ok-budget-in-Budget c =
    record { read = is_budget c.in-Some.ensures.read c.in-Budget.is c.in_ok-budget-in-Budget.ensures.read }

pub returns-in_err-policy-in-Adaptive : goal.returns-in_err-policy-in-Adaptive
returns-in_err-policy-in-Adaptive c = search (rules, line_refused, no_adaptive)

pub returns-in_ok-policy-in-Adaptive : goal.returns-in_ok-policy-in-Adaptive
returns-in_ok-policy-in-Adaptive c =
    record { read = is_adaptive c.in-Some.ensures.read c.in-Adaptive.is c.in_ok-policy-in-Adaptive.ensures.read }

pub returns-in_err-goal-in-Minimise : goal.returns-in_err-goal-in-Minimise
returns-in_err-goal-in-Minimise c = search (rules, line_refused, no_minimise)

pub returns-in_ok-goal-in-Minimise : goal.returns-in_ok-goal-in-Minimise
returns-in_ok-goal-in-Minimise c = search (rules, is_goal_of, is_minimise)

pub returns-in_err-goal-in-Maximise : goal.returns-in_err-goal-in-Maximise
returns-in_err-goal-in-Maximise c = search (rules, line_refused, no_maximise)

pub returns-in_ok-goal-in-Maximise : goal.returns-in_ok-goal-in-Maximise
returns-in_ok-goal-in-Maximise c = search (rules, is_goal_of, is_maximise)

pub returns-in_err-name-in-Row : goal.returns-in_err-name-in-Row
returns-in_err-name-in-Row c = search (rules, line_refused, no_row)

pub returns-in_ok-name-in-Row : goal.returns-in_ok-name-in-Row
returns-in_ok-name-in-Row c = search (rules, is_row)

pub returns-in-In : goal.returns-in-In
returns-in-In c = record { read = no_within c.in-Some.ensures.read c.in-In.is }

pub returns-in-At : goal.returns-in-At
returns-in-At c = record { read = no_at c.in-Some.ensures.read c.in-At.is }

pub returns-in-By : goal.returns-in-By
returns-in-By c = record { read = no_by c.in-Some.ensures.read c.in-By.is }

pub returns-in-Sum : goal.returns-in-Sum
returns-in-Sum c = record { read = no_sum c.in-Some.ensures.read c.in-Sum.is }

pub returns-in-For : goal.returns-in-For
returns-in-For c = record { read = no_for c.in-Some.ensures.read c.in-For.is }

pub returns-in-To : goal.returns-in-To
returns-in-To c = record { read = no_to c.in-Some.ensures.read c.in-To.is }

pub returns-in-Model : goal.returns-in-Model
returns-in-Model c = record { read = no_model c.in-Some.ensures.read c.in-Model.is }

pub returns-in-Unused : goal.returns-in-Unused
returns-in-Unused c = record { read = no_unused c.in-Some.ensures.read c.in-Unused.is }

pub returns-in_default : goal.returns-in_default
returns-in_default c = record { read = no_keyword c.in_default.ensures.read }
