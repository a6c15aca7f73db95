use Rattle.std.proofs.Common.{refl, drop}
use Rattle.rob_rules.specs.Scopes.{earlier_of}
use Rattle.rob_rules.proofs.Judging.LowestLemmas.{judged_more, judged_all, room_now}
use Rattle.rob_rules.proofs.lines.judge_all.Goals as goal

pub first_fault-requires : goal.first_fault-requires
first_fault-requires c = record {
  small = room_now c.loop-statement.scope.sizes (drop c.loop-statement.statement-index c.args.statements.now)
      c.loop-statement.invariant.small;
}

pub note-requires : goal.note-requires
note-requires c = record {
  small = room_now c.loop-statement.scope.sizes (drop c.loop-statement.statement-index c.args.statements.now)
      c.loop-statement.invariant.small;
}

pub loop-statement-init : goal.loop-statement-init
loop-statement-init c = record { small = c.requires.small; fault = refl; noted = refl }

pub loop-statement-preserved : goal.loop-statement-preserved
loop-statement-preserved c =
    judged_more c.args.limit (earlier_of c.args.front.now) _ _ c.args.statements.now c.loop-statement.statement-index
    c.statement-item.result (earlier_of c.loop-statement.scope) _ c.loop-statement.lowest _ _ c.loop-statement-test.true
    c.statement-item.is c.loop-statement.invariant c.in_ok-fault.ensures.fault c.lower-lowest.ensures.lower
    c.note.ensures.noted

pub returns : goal.returns
returns c =
    let done = judged_all c.args.limit (earlier_of c.args.front.now) _ _ c.args.statements.now
    c.loop-statement.statement-index (earlier_of c.loop-statement.scope) c.loop-statement.lowest
    c.loop-statement-test.false c.loop-statement.invariant in
    record { fault = done.0; noted = done.1 }
