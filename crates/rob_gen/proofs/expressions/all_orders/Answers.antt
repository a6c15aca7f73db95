use Rattle.std.proofs.Common.{◌≡◌, sym, ◌∙◌, ap, arith}
use Rattle.rob_gen.specs.Generated.{order, total}
use Rattle.rob_gen.proofs.TreeLemmas.{total_of}
use Rattle.rob_gen.proofs.expressions.all_orders.Goals as goal

pub returns-then-count-eq1 : goal.returns-then-count-eq1
returns-then-count-eq1 g c = record {
  made = c.order.ensures.made ∙ sym (ap (λ count. total count order) (let e : c.args.count ≡ 1 = omega arith in e));
}

pub returns : goal.returns
returns g c = record {
  made = total_of g.N.Exact.value order c.args.count c.add_orders.new.terms (omega (arith, c.requires.some))
      c.new-terms.ensures.empty c.in_ok-add_orders.ensures.made;
}
