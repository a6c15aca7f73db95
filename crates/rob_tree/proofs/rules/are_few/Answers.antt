use Rattle.std.proofs.Common.{refl}
use Rattle.rob_model.specs.View.{robust}
use Rattle.rob_reach.specs.Ranges.{product_of_ranges}
use Rattle.rob_tree.proofs.Numbers.RangeLemmas.{product_more, product_over}
use Rattle.rob_tree.proofs.rules.are_few.Goals as goal

pub returns-in-None : goal.returns-in-None
returns-in-None g c =
    let xs = (robust g.N.Exact.value c.args.model.now).variables in
    record {
      test = product_over xs c.args.names.now c.loop-column.column-index _ _ c.loop-column.so_far c.range_at.result
          (product_of_ranges xs c.args.names.now) c.loop-column-test.true refl c.range_at.ensures.range
          c.loop-column.invariant.product
          c.in-None.ensures.product;
    }

pub loop-column-preserved : goal.loop-column-preserved
loop-column-preserved g c =
    let xs = (robust g.N.Exact.value c.args.model.now).variables in
    record {
      product = product_more xs c.args.names.now c.loop-column.column-index _ _ c.loop-column.so_far c.range_at.result
          (product_of_ranges xs c.args.names.now) c.loop-column-test.true refl c.range_at.ensures.range
          c.loop-column.invariant.product
          c.in-Some.product c.in-Some.ensures.product.0;
      few = c.in-Some.ensures.product.1;
    }
