use Rattle.std.proofs.Common.{◌<◌, length, subst, sym, arith}
use Rattle.rob_ranges.proofs.JoinLemmas.{joined_longer, products_more, products_all}
use Rattle.rob_ranges.proofs.form.add_products.Goals as goal

pub loop-other-preserved : goal.loop-other-preserved
loop-other-preserved c =
    let here = c.loop-other in
    let longer =
    joined_longer here.place c.args.factor.now c.other-item.result here.factors.items here.invariant.within in
    let within : here.place < length c.add_product.new.factors.items =
    subst (λ fs. here.place < length fs) (sym c.in_ok-add_product.ensures.added) longer in
    record {
      place = omega (arith, here.invariant.place);
      within = omega (arith, within);
      so_far =
          products_more here.place here.other-index c.args.factor.now here.factors.items
          c.add_product.new.factors.items here.invariant.within c.args.others.now c.other-item.result
          c.loop-other-test.true c.other-item.is c.in_ok-add_product.ensures.added here.invariant.so_far;
    }

pub returns : goal.returns
returns c =
    let here = c.loop-other in
    record {
      added =
          products_all here.place here.other-index c.args.factor.now here.factors.items here.factors.items
          here.invariant.within c.args.others.now c.loop-other-test.false here.invariant.so_far;
      within = omega (arith, here.invariant.place, here.invariant.within);
    }
