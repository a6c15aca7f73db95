use Rattle.std.proofs.Common.{map, ap, ◌∙◌, arith}
use Rattle.rob_model.specs.View.{set_line_of}
use Rattle.rob_reach.specs.Sweeps.{limit_at}
use Rattle.rob_sweep.proofs.BudgetLemmas.{limited_more}
use Rattle.rob_sweep.specs.View.{with_limit}
use Rattle.rob_sweep.proofs.budget.limited.Goals as goal

pub loop-line-preserved : goal.loop-line-preserved
loop-line-preserved g c =
    let value = g.N.Exact.value in
    let view = set_line_of value in
    limited_more view c.args.lines.now (value c.args.limit)
    (limit_at c.args.n (value c.args.limit) (map view c.args.lines.now))
    c.loop-line.line-index c.loop-line.left c.saturating_sub-left.result c.line-item.result c.in_ok-next.next
    c.loop-line.list c.push.new.self
    c.loop-line-test.true c.line-item.is
    (c.in_ok-next.ensures.copied ∙ ap (λ o. with_limit o (view c.line-item.result)) c.limit_for.ensures.limit)
    (omega (arith, c.saturating_sub-left.ensures)) c.in_ok-push.ensures.appended c.loop-line.invariant
