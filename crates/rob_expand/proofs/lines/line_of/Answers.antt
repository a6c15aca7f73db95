use Rattle.std.proofs.Common.{sym, subst}
use Rattle.std.specs.Prelude.{IfOk}
use Rattle.rob_syntax.specs.declared.syntax.Indexed.{Indexed}
use Rattle.rob_syntax.specs.Seen.{seen_statement}
use Rattle.rob_expand.specs.Statements.{IsLine}
use Rattle.rob_expand.proofs.lines.line_of.Goals as goal

pub returns-in-Uncertain : goal.returns-in-Uncertain
returns-in-Uncertain c = record {
  line =
      subst (λ (s : Indexed). IfOk c.declaration.result (λ p. IsLine c.args.limit (seen_statement s) p.0 p.1))
      (sym c.in-Uncertain.is) c.declaration.ensures.parts;
}

pub returns-in-Over : goal.returns-in-Over
returns-in-Over c = record {
  line =
      subst (λ (s : Indexed). IfOk c.set_name.result (λ p. IsLine c.args.limit (seen_statement s) p.0 p.1))
      (sym c.in-Over.is) c.set_name.ensures.parts;
}

pub returns-in-Set : goal.returns-in-Set
returns-in-Set c = record {
  line =
      subst (λ (s : Indexed). IfOk c.relation.result (λ p. IsLine c.args.limit (seen_statement s) p.0 p.1))
      (sym c.in-Set.is) c.relation.ensures.parts;
}

pub returns-in-Row : goal.returns-in-Row
returns-in-Row c = record {
  line =
      subst (λ (s : Indexed). IfOk c.row.result (λ p. IsLine c.args.limit (seen_statement s) p.0 p.1))
      (sym c.in-Row.is) c.row.ensures.parts;
}

pub returns-in-Goal : goal.returns-in-Goal
returns-in-Goal c = record {
  line =
      subst (λ (s : Indexed). IfOk c.goal.result (λ p. IsLine c.args.limit (seen_statement s) p.0 p.1))
      (sym c.in-Goal.is) c.goal.ensures.parts;
}

pub returns-in-Budget : goal.returns-in-Budget
returns-in-Budget c = record {
  line =
      subst (λ (s : Indexed). IfOk c.budget.result (λ p. IsLine c.args.limit (seen_statement s) p.0 p.1))
      (sym c.in-Budget.is) c.budget.ensures.parts;
}

pub returns-in-Var : goal.returns-in-Var
returns-in-Var c = record {
  line =
      subst (λ (s : Indexed). IfOk c.declaration-in-Var.result (λ p. IsLine c.args.limit (seen_statement s) p.0 p.1))
      (sym c.in-Var.is) c.declaration-in-Var.ensures.parts;
}

pub returns-in-Adaptive : goal.returns-in-Adaptive
returns-in-Adaptive c = record {
  line =
      subst (λ (s : Indexed). IfOk c.policy.result (λ p. IsLine c.args.limit (seen_statement s) p.0 p.1))
      (sym c.in-Adaptive.is) c.policy.ensures.parts;
}
