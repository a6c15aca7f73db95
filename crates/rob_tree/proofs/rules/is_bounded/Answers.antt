use Rattle.rob_tree.proofs.Numbers.RangeLemmas.{tests_both, tests_lower, tests_past}
use Rattle.rob_tree.proofs.rules.is_bounded.Goals as goal

pub returns-then-is_some : goal.returns-then-is_some
returns-then-is_some g c = record {
  test = tests_both g.N.Exact.value c.items.result.now c.args.model.now.vars c.args.column
      c.items.ensures.list c.in-Some.var.now
      c.is_some.result c.is_some-then-is_some.result c.in-Some.ensures.lookup.3.0
      (c.in-Some.ensures.lookup.3.1 c.in-Some.var.now)
      c.is_some.ensures c.if-is_some.true c.is_some-then-is_some.ensures;
}

pub returns-else-is_some : goal.returns-else-is_some
returns-else-is_some g c = record {
  test = tests_lower g.N.Exact.value c.items.result.now c.args.model.now.vars c.args.column
      c.items.ensures.list c.in-Some.var.now
      c.is_some.result c.in-Some.ensures.lookup.3.0 (c.in-Some.ensures.lookup.3.1 c.in-Some.var.now)
      c.is_some.ensures c.if-is_some.false;
}

pub returns-in-None : goal.returns-in-None
returns-in-None g c = record {
  test = tests_past g.N.Exact.value c.items.result.now c.args.model.now.vars c.args.column c.items.ensures.list
      c.in-None.ensures.lookup.3;
}
