use Rattle.rob_model.specs.View.{robust}
use Rattle.rob_commands.proofs.StopLemmas.{limit_replies}
use Rattle.rob_commands.proofs.budgets.limited.Goals as goal

pub returns-in-Ok : goal.returns-in-Ok
returns-in-Ok g c = record {
  limited = limit_replies (robust g.N.Exact.value c.args.model.now) (robust g.N.Exact.value c.in-Ok.changed) c.args.n
      (g.N.Exact.value c.args.limit) c.printed_model.result c.in-Ok.ensures.rule c.in-Ok.ensures.replaced
      c.printed_model.ensures.printed;
}
