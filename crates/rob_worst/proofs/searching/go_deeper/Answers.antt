use Rattle.std.proofs.Common.{◌∙◌, ap, subst}
use Rattle.std.proofs.lemmas.Bool.{OnTrue_at}
use Rattle.std.specs.Prelude.{MatchResult}
use Rattle.rob_simplex.specs.Dictionaries.{Table}
use Rattle.rob_dualize.specs.SetSolving.{program_of_set}
use Rattle.rob_dualize.specs.Solving.{CountsStop}
use Rattle.rob_worst.specs.Finders.{HasStoppedSearch, TellsTask}
use Rattle.rob_worst.proofs.DeepLemmas.{weightless, taken_over}
use Rattle.rob_worst.proofs.FinderLemmas.{search_found, search_stopped}
use Rattle.rob_worst.proofs.searching.go_deeper.Goals as goal

pub returns-then-is_deep-clause-answer : goal.returns-then-is_deep-clause-answer
returns-then-is_deep-clause-answer g c = λ m is step i some z size t.
    search_stopped g.N.Exact.value g.N.Exact.limit m step i z (g.L.Ledger.wides c.args.ledger.now)
    (g.L.Ledger.wides c.refused.new.ledger) c.refused.result
    (c.refused.ensures.cause m is step i z t) c.refused.ensures.wides

pub deepened-requires-clause-weightless : goal.deepened-requires-clause-weightless
deepened-requires-clause-weightless g c =
    weightless (program_of_set c.args.set.now) c.args.solved.now c.requires.ready.solved

pub go_on-requires : goal.go_on-requires
go_on-requires g c = record {
  ready = record {
    few = c.requires.ready.few;
    task_fits = c.requires.ready.task_fits;
    solved = taken_over (program_of_set c.args.set.now) _ c.args.solved.now c.in_ok-deep.deep
        c.in_ok-deep.ensures.stands c.requires.ready.solved;
  };
}

pub returns-in-Ok-Ok-clause-answer : goal.returns-in-Ok-Ok-clause-answer
returns-in-Ok-Ok-clause-answer g c = λ m is step i some z size t.
    let value = g.N.Exact.value in
    let limit = g.N.Exact.limit in
    let told : TellsTask value c.args.set.now c.args.task.now c.in-Ok-Ok.worst =
    subst (λ r. MatchResult r (TellsTask value c.args.set.now c.args.task.now)
    (λ stop. HasStoppedSearch limit (program_of_set c.args.set.now) c.args.task.now.cost stop c.go_on.new.solver))
    c.in-Ok-Ok.field-0-is c.in-Ok-Ok.ensures.found in
    search_found value limit m step i z (g.L.Ledger.wides c.args.ledger.now) (g.L.Ledger.wides c.go_on.new.ledger)
    c.in-Ok-Ok.worst (told m is step i some z size t)
    c.go_on.ensures.counted.wides

pub returns-in-Ok-Err-clause-answer : goal.returns-in-Ok-Err-clause-answer
returns-in-Ok-Err-clause-answer g c = λ m is step i some z size t.
    search_stopped g.N.Exact.value g.N.Exact.limit m step i z (g.L.Ledger.wides c.args.ledger.now)
    (g.L.Ledger.wides c.refused-in-Ok-Err.new.ledger) c.refused-in-Ok-Err.result
    (c.refused-in-Ok-Err.ensures.cause m is step i z t)
    (subst (λ b. CountsStop b (g.L.Ledger.wides c.refused-in-Ok-Err.new.ledger) c.refused-in-Ok-Err.result)
    c.go_on.ensures.counted.wides c.refused-in-Ok-Err.ensures.wides)

pub refused-requires-in-Ok-Err-clause-depth : goal.refused-requires-in-Ok-Err-clause-depth
refused-requires-in-Ok-Err-clause-depth g c = c.go_on.ensures.limit
    ∙ ap (λ (t : Table). t.limit) c.in_ok-deep.ensures.stands.dictionary

pub refused-requires-clause-depth : goal.refused-requires-clause-depth
refused-requires-clause-depth g c = c.requires.depth ∙ OnTrue_at c.if-is_deep.true c.is_deep.ensures.deep
