use Rattle.std.proofs.Common.{◌≡◌, ◌-◌, sym, ◌∙◌, ap, arith}
use Rattle.rob_gen.specs.Generated.{order}
use Rattle.rob_model.proofs.PartLemmas.{adaptive_is, variable_is}
use Rattle.rob_gen.proofs.TreeLemmas.{order_later}
use Rattle.rob_gen.proofs.expressions.order.Goals as goal

pub returns-then-place-eq0 : goal.returns-then-place-eq0
returns-then-place-eq0 g c = record {
  made = variable_is g.N.Exact.value 0 ∙ sym (ap order (let e : c.args.place ≡ 0 = omega arith in e));
}

pub returns-else-place-eq0 : goal.returns-else-place-eq0
returns-else-place-eq0 g c = record {
  made = adaptive_is g.N.Exact.value (c.args.place - 1) ∙ sym
      (order_later c.args.place (c.args.place - 1) (omega arith));
}
