use Rattle.std.proofs.Common.{arith, ◌∙◌}
use Rattle.rob_model.specs.View.{robust}
use Rattle.rob_check.proofs.ItemLemmas.{items_stop, items_go}
use Rattle.rob_check.proofs.items.check_items.Goals as goal

pub returns-in_default-clause-exact : goal.returns-in_default-clause-exact
returns-in_default-clause-exact g c =
    let value = g.N.Exact.value in
    items_stop value g.N.Exact.limit (robust value c.args.model.now) c.args.items.now c.loop-index.index
    c.index-items-index.result c.loop-index-test.true c.index-items-index.is
    c.check_item.result c.in_default.not-Accepted c.check_item.ensures.exact
    ∙ c.loop-index.invariant.rest

pub loop-index-preserved : goal.loop-index-preserved
loop-index-preserved g c =
    let value = g.N.Exact.value in
    record {
      rest = items_go value g.N.Exact.limit (robust value c.args.model.now) c.args.items.now c.loop-index.index
          c.index-items-index.result c.loop-index-test.true c.index-items-index.is
          c.in-Accepted.ensures.exact
          ∙ c.loop-index.invariant.rest;
      counted = record {
        ops = omega (arith, c.loop-index.invariant.counted.ops, c.in-Accepted.ensures.counted.ops);
        wides = omega (arith, c.loop-index.invariant.counted.wides, c.in-Accepted.ensures.counted.wides);
      };
    }
