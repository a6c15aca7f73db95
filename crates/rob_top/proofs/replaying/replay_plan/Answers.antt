use Rattle.std.proofs.Common.{map}
use Rattle.rob_model.specs.View.{plan_of, robust}
use Rattle.rob_replay.specs.View.{line_of}
use Rattle.rob_top.proofs.Meaning.ReplayingLemmas.{record_at, table_at, wide_at}
use Rattle.rob_top.proofs.replaying.replay_plan.Goals as goal

pub returns-in-Ok-clause-answers : goal.returns-in-Ok-clause-answers
returns-in-Ok-clause-answers g c =
    table_at g.N.Exact.limit (robust g.N.Exact.value c.args.model.now) (plan_of g.N.Exact.value c.args.plan.now)
    (g.N.Exact.value c.args.plan.now.bound) c.args.text.now _
    (map (line_of g.N.Exact.value) c.in-Ok.table.lines) c.printed.result c.in-Ok.ensures.replayed c.in-Ok.ensures.table
    c.in-Ok.ensures.bounded c.printed.ensures.printed

pub returns-in-Err-Rule-clause-answers : goal.returns-in-Err-Rule-clause-answers
returns-in-Err-Rule-clause-answers g c =
    record_at g.N.Exact.limit (robust g.N.Exact.value c.args.model.now) (plan_of g.N.Exact.value c.args.plan.now)
    (g.N.Exact.value c.args.plan.now.bound) c.args.text.now _ c.in-Err-Rule.rule c.in-Err-Rule.number
    c.broken_rule.result (rw c.in-Err-Rule.field-0-is at c.in-Err-Rule.ensures.refused) c.broken_rule.ensures.fault

pub returns-in-Err-Wide-clause-answers : goal.returns-in-Err-Wide-clause-answers
returns-in-Err-Wide-clause-answers g c =
    wide_at g.N.Exact.limit (robust g.N.Exact.value c.args.model.now) (plan_of g.N.Exact.value c.args.plan.now)
    (g.N.Exact.value c.args.plan.now.bound) c.args.text.now
    (g.L.Ledger.wides c.args.ledger.now) (g.L.Ledger.wides c.replay.new.ledger) c.in-Err-Wide.number c.too_wide.result
    (rw c.in-Err-Wide.field-0-is at c.in-Err-Wide.ensures.refused)
    (rw c.in-Err-Wide.field-0-is at c.in-Err-Wide.ensures.wide) c.too_wide.ensures.spot
