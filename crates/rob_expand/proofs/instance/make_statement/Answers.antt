use Rattle.std.proofs.Common.{◌∙◌}
use Rattle.std.proofs.lemmas.Result.{IfOk-weaker}
use Rattle.rob_syntax.specs.Known.{texts}
use Rattle.rob_expand.proofs.Expanding.MakeLemmas.{uncertain_made, over_made, set_condition_made, budget_made, var_made, policy_made, goal_made, row_made}
use Rattle.rob_expand.proofs.instance.make_statement.Goals as goal

pub returns-in-Uncertain : goal.returns-in-Uncertain
returns-in-Uncertain c = record {
  made =
      IfOk-weaker c.make_uncertain.result _ _
      (λ m e. e
      ∙ uncertain_made (texts c.args.names.own.now.keys) (texts c.args.names.words.now.keys) c.args.values.now
      c.args.statement.now c.args.line.now c.requires.line _ c.in-Uncertain.is) c.make_uncertain.ensures.made;
}

pub returns-in-Over : goal.returns-in-Over
returns-in-Over c = record {
  made =
      IfOk-weaker c.make_set_name.result _ _
      (λ m e. e
      ∙ over_made (texts c.args.names.own.now.keys) (texts c.args.names.words.now.keys) c.args.values.now
      c.args.statement.now c.args.line.now c.requires.line _ c.in-Over.is) c.make_set_name.ensures.made;
}

pub returns-in-Set : goal.returns-in-Set
returns-in-Set c = record {
  made =
      IfOk-weaker c.make_set.result _ _
      (λ m e. e
      ∙ set_condition_made (texts c.args.names.own.now.keys) (texts c.args.names.words.now.keys) c.args.values.now
      c.args.statement.now c.args.line.now c.requires.line _ c.in-Set.is) c.make_set.ensures.made;
}

pub returns-in-Budget : goal.returns-in-Budget
returns-in-Budget c = record {
  made =
      IfOk-weaker c.make_budget.result _ _
      (λ m e. e
      ∙ budget_made (texts c.args.names.own.now.keys) (texts c.args.names.words.now.keys) c.args.values.now
      c.args.statement.now c.args.line.now c.requires.line _ c.in-Budget.is) c.make_budget.ensures.made;
}

pub returns-in-Var : goal.returns-in-Var
returns-in-Var c = record {
  made =
      IfOk-weaker c.make_var.result _ _
      (λ m e. e
      ∙ var_made (texts c.args.names.own.now.keys) (texts c.args.names.words.now.keys) c.args.values.now
      c.args.statement.now c.args.line.now c.requires.line _ c.in-Var.is) c.make_var.ensures.made;
}

pub returns-in-Adaptive : goal.returns-in-Adaptive
returns-in-Adaptive c = record {
  made =
      IfOk-weaker c.make_policy.result _ _
      (λ m e. e
      ∙ policy_made (texts c.args.names.own.now.keys) (texts c.args.names.words.now.keys) c.args.values.now
      c.args.statement.now c.args.line.now c.requires.line _ c.in-Adaptive.is) c.make_policy.ensures.made;
}

pub returns-in-Goal : goal.returns-in-Goal
returns-in-Goal c = record {
  made =
      IfOk-weaker c.make_goal.result _ _
      (λ m e. e
      ∙ goal_made (texts c.args.names.own.now.keys) (texts c.args.names.words.now.keys) c.args.values.now
      c.args.statement.now c.args.line.now c.requires.line _ c.in-Goal.is) c.make_goal.ensures.made;
}

pub returns-in-Row : goal.returns-in-Row
returns-in-Row c = record {
  made =
      IfOk-weaker c.make_row.result _ _
      (λ m e. e
      ∙ row_made (texts c.args.names.own.now.keys) (texts c.args.names.words.now.keys) c.args.values.now
      c.args.statement.now c.args.line.now c.requires.line _ _ c.in-Row.is) c.make_row.ensures.made;
}
