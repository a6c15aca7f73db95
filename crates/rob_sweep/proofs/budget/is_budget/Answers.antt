use Rattle.std.proofs.Common.{◌-◌, arith}
use Rattle.rob_model.specs.View.{set_line_of}
use Rattle.rob_sweep.proofs.BudgetLemmas.{budget_here, budget_none, budget_past}
use Rattle.rob_sweep.proofs.budget.is_budget.Goals as goal

pub returns-then-n-eq0 : goal.returns-then-n-eq0
returns-then-n-eq0 g c =
    record { test = budget_none (set_line_of g.N.Exact.value) c.args.lines.now c.args.n c.if-n-eq0.true }

pub returns-in-Some : goal.returns-in-Some
returns-in-Some g c = record {
  test = budget_here (set_line_of g.N.Exact.value) c.args.lines.now c.args.n (c.args.n - 1)
      c.in-Some.line.now c.has_limit.result
      (omega (arith, c.if-n-eq0.false)) c.in-Some.ensures.lookup.3.0 (c.in-Some.ensures.lookup.3.1 c.in-Some.line.now)
      c.has_limit.ensures.test;
}

pub returns-in-None : goal.returns-in-None
returns-in-None g c = record {
  test = budget_past (set_line_of g.N.Exact.value) c.args.lines.now c.args.n (c.args.n - 1)
      (omega (arith, c.if-n-eq0.false))
      c.in-None.ensures.lookup.3;
}
