use Rattle.std.proofs.Common.{None, Some, map}
use Rattle.csv.specs.Records.{fields_of}
use Rattle.rob_model.specs.View.{plan_of, robust}
use Rattle.rob_replay.proofs.OutcomeLemmas.{record_line, record_unlike, record_unread}
use Rattle.rob_replay.specs.View.{line_of}
use Rattle.rob_replay.proofs.replaying.replay_record.Goals as goal

pub returns-then-len-places-clause-line : goal.returns-then-len-places-clause-line
returns-then-len-places-clause-line g c =
    record_unlike g.N.Exact.limit (robust g.N.Exact.value c.args.planned.model.now)
    (plan_of g.N.Exact.value c.args.planned.plan.now) c.args.planned.places.now c.args.number
    (fields_of c.args.row.now) c.len.result c.len.ensures c.if-len-places.true

pub returns-in-Ok-None-clause-line : goal.returns-in-Ok-None-clause-line
returns-in-Ok-None-clause-line g c =
    record_unread g.N.Exact.limit (robust g.N.Exact.value c.args.planned.model.now)
    (plan_of g.N.Exact.value c.args.planned.plan.now) c.args.planned.places.now c.args.number
    (fields_of c.args.row.now) c.len.result c.len.ensures c.if-len-places.false
    (map g.N.Exact.value) c.in-Ok-None.field-0 c.in-Ok-None.ensures.numbers c.in-Ok-None.field-0-is

pub returns-in-Err-Wide-clause-line : goal.returns-in-Err-Wide-clause-line
returns-in-Err-Wide-clause-line g c =
    record_line g.N.Exact.limit (robust g.N.Exact.value c.args.planned.model.now)
    (plan_of g.N.Exact.value c.args.planned.plan.now) c.args.planned.places.now c.args.number
    (fields_of c.args.row.now) c.len.result c.len.ensures c.if-len-places.false
    (map g.N.Exact.value) c.in-Ok-Some.field-0 c.in-Ok-Some.ensures.numbers c.in-Ok-Some.numbers c.items.result.now
    (map g.N.Exact.value c.in-Ok.scenario.values) None c.in-Ok-Some.field-0-is c.in-Ok.ensures.scenario
    c.items.ensures.list (rw c.in-Err-Wide.field-0-is at c.in-Err-Wide.ensures.exact)

pub returns-clause-line : goal.returns-clause-line
returns-clause-line g c =
    record_line g.N.Exact.limit (robust g.N.Exact.value c.args.planned.model.now)
    (plan_of g.N.Exact.value c.args.planned.plan.now) c.args.planned.places.now c.args.number
    (fields_of c.args.row.now) c.len.result c.len.ensures c.if-len-places.false
    (map g.N.Exact.value) c.in-Ok-Some.field-0 c.in-Ok-Some.ensures.numbers c.in-Ok-Some.numbers c.items.result.now
    (map g.N.Exact.value c.in-Ok.scenario.values) (Some (line_of g.N.Exact.value c.in-Ok-line_at.line))
    c.in-Ok-Some.field-0-is c.in-Ok.ensures.scenario c.items.ensures.list c.in-Ok-line_at.ensures.exact
