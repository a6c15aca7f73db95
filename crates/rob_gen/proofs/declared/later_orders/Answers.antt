use Rattle.std.proofs.Common.{◌≡◌, ap, ◌∙◌, arith}
use Rattle.rob_number.proofs.CountLemmas.{only_later}
use Rattle.rob_meaning.specs.Places.{tabulate}
use Rattle.rob_model.specs.View.{adaptive_of}
use Rattle.rob_gen.specs.Generated.{later_order}
use Rattle.rob_gen.proofs.ListLemmas.{more}
use Rattle.rob_gen.proofs.declared.later_orders.Goals as goal

pub loop-later-preserved : goal.loop-later-preserved
loop-later-preserved g c = record {
  made = more (adaptive_of g.N.Exact.value) later_order c.loop-later.list c.in_ok-item.item c.loop-later.later
      c.in_ok-push.ensures.appended c.in_ok-item.ensures.made c.loop-later.invariant.made;
  counted = only_later c.loop-later.invariant.counted c.later_order.ensures.counted;
}

pub returns-clause-made : goal.returns-clause-made
returns-clause-made g c =
    c.loop-later.invariant.made ∙ ap (λ k. tabulate k later_order)
    (let e : c.loop-later.later ≡ c.args.count = omega arith in e)
