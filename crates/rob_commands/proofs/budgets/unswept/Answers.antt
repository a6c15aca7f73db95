use Rattle.std.proofs.Common.{IfOk, ◌∙◌, ◌-◌, ap, map, subst, sym}
use Rattle.std.proofs.Math.ListN.{get_or-map}
use Rattle.rob_model.specs.View.{robust}
use Rattle.rob_sweep.specs.declared.answer.SweepStop.{SweepStop}
use Rattle.rob_commands.proofs.StopLemmas.{wide_cause, wide_replies, wide_there}
use Rattle.rob_commands.specs.Stops.{RepliesUnswept}
use Rattle.rob_commands.proofs.budgets.unswept.Goals as goal

pub wide_budget-requires-clause-named : goal.wide_budget-requires-clause-named
wide_budget-requires-clause-named g c =
    let m = robust g.N.Exact.value c.args.model.now in
    let limits = map g.N.Exact.value c.args.limits.now in
    let cause =
    wide_cause g.N.Exact.limit m c.args.n limits c.args.stop c.in-Wide.number c.in-Wide.spot
    c.in-Wide.is c.requires.cause in
    wide_there g.N.Exact.limit m c.args.n limits c.in-Wide.number c.in-Wide.spot
    (g.N.Exact.value c.index-limits-number.result)
    (g.N.Exact.value c.index-limits-number.result) cause.1
    (ap g.N.Exact.value c.index-limits-number.is
    ∙ sym (get_or-map g.N.Exact.value c.args.limits.now (c.in-Wide.number - 1) c.index-limits-number.result))

pub returns-in-Wide : goal.returns-in-Wide
returns-in-Wide g c =
    let m = robust g.N.Exact.value c.args.model.now in
    let limits = map g.N.Exact.value c.args.limits.now in
    record {
      stop = subst (λ (s : SweepStop). IfOk c.wide_budget.result (RepliesUnswept g.N.Exact.limit m c.args.n limits s))
          (sym c.in-Wide.is)
          (wide_replies g.N.Exact.limit m c.args.n limits c.in-Wide.number c.in-Wide.spot
          (g.N.Exact.value c.index-limits-number.result)
          (g.N.Exact.value c.index-limits-number.result) c.wide_budget.result
          (ap g.N.Exact.value c.index-limits-number.is
          ∙ sym (get_or-map g.N.Exact.value c.args.limits.now (c.in-Wide.number - 1) c.index-limits-number.result))
          c.wide_budget.ensures.wide);
    }
