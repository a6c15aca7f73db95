use Rattle.std.proofs.Common.{refl, ap, ◌∙◌, drop}
use Rattle.rob_rules.specs.Scopes.{earlier_of}
use Rattle.rob_rules.specs.Stages.{mark_declared}
use Rattle.rob_rules.proofs.Judging.LowestLemmas.{caught_more, caught_all, room_now}
use Rattle.rob_rules.proofs.lines.catch_up.Goals as goal

pub declared_by-requires : goal.declared_by-requires
declared_by-requires c = record {
  small = room_now c.loop-statement.front.sizes (drop c.loop-statement.statement-index c.args.statements.now)
      c.loop-statement.invariant.small;
}

pub note-requires : goal.note-requires
note-requires c = record {
  small = room_now c.loop-statement.front.sizes (drop c.loop-statement.statement-index c.args.statements.now)
      c.loop-statement.invariant.small;
}

pub loop-statement-init : goal.loop-statement-init
loop-statement-init c = record { small = c.requires.small; front = refl; declared_are = refl }

pub loop-statement-preserved : goal.loop-statement-preserved
loop-statement-preserved c =
    caught_more _ _ c.args.statements.now c.loop-statement.statement-index c.statement-item.result
    (earlier_of c.loop-statement.front) _ c.loop-statement.declared _ c.loop-statement-test.true c.statement-item.is
    c.loop-statement.invariant
    (c.mark.ensures.marked ∙ ap (mark_declared c.loop-statement.declared) c.declared_by.ensures.declared)
    c.note.ensures.noted

pub returns : goal.returns
returns c =
    let done = caught_all _ _ c.args.statements.now c.loop-statement.statement-index (earlier_of c.loop-statement.front)
    c.loop-statement.declared c.loop-statement-test.false c.loop-statement.invariant in
    record { front = done.0; declared = done.1 }
