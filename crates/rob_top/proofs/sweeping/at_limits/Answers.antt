use Rattle.std.proofs.Common.{IfOk, map, subst}
use Rattle.rob_model.specs.View.{robust}
use Rattle.rob_sweep.specs.View.{answer_of}
use Rattle.rob_top.proofs.Meaning.SweepingLemmas.{answers_count, answers_fit, priced_answers, unswept_answers}
use Rattle.rob_sweep.specs.SweepText.{sweep_text}
use Rattle.rob_commands.specs.Replies.{Replies}
use Rattle.rob_commands.specs.declared.ended.Ended.TheVariants.{Printed}
use Rattle.rob_top.proofs.sweeping.at_limits.Goals as goal

pub printed-requires : goal.printed-requires
printed-requires g c = record {
  count = answers_count g.N.Exact.value (answer_of g.N.Exact.value) (robust g.N.Exact.value c.args.model.now)
      c.args.n c.args.limits.now
      c.in-Ok.answers c.items.result.now c.items.ensures.list c.in-Ok.ensures.swept;
}

pub returns-in-Ok-clause-answers : goal.returns-in-Ok-clause-answers
returns-in-Ok-clause-answers g c =
    priced_answers g.N.Exact.limit (robust g.N.Exact.value c.args.model.now) _ c.args.n
    (map g.N.Exact.value c.args.limits.now)
    (map (answer_of g.N.Exact.value) c.in-Ok.answers) c.printed.result c.in-Ok.ensures.cause
    c.in-Ok.ensures.written c.in-Ok.ensures.swept
    c.in-Ok.ensures.empty c.in-Ok.ensures.harder
    (answers_fit g.N.Exact.value g.N.Exact.limit g.met.N.Exact.fits c.in-Ok.answers)
    (subst (λ answers. IfOk c.printed.result (Replies Printed
    (sweep_text (map g.N.Exact.value c.args.limits.now) (map (answer_of g.N.Exact.value) answers))))
    c.items.ensures.list c.printed.ensures.printed)

pub returns-in-Err-clause-answers : goal.returns-in-Err-clause-answers
returns-in-Err-clause-answers g c =
    unswept_answers g.N.Exact.limit (robust g.N.Exact.value c.args.model.now) (g.L.Ledger.wides c.args.ledger.now)
    (g.L.Ledger.wides c.sweep.new.ledger) c.args.n (map g.N.Exact.value c.args.limits.now) c.in-Err.stop
    c.unswept.result c.in-Err.ensures.cause
    c.in-Err.ensures.counted.stopped c.unswept.ensures.stop
