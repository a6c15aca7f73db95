use Rattle.rob_gen.proofs.MadeLemmas.{later_order_is}
use Rattle.rob_gen.proofs.declared.later_order.Goals as goal

pub returns-clause-made : goal.returns-clause-made
returns-clause-made g c =
    later_order_is g.N.Exact.value c.args.later c.in_ok-name.name c.in_ok-on.on c.whole-least.result
    c.in_ok-name.ensures.name c.in_ok-on.ensures.list c.whole-least.ensures.value
