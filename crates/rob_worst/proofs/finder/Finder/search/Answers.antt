use Rattle.std.proofs.Common.{subst, Result}
use Rattle.std.specs.Prelude.{MatchResult}
use Rattle.rob_cert.specs.declared.ending.Stop.{Stop}
use Rattle.rob_dualize.specs.SetSolving.{program_of_set}
use Rattle.rob_worst.specs.Finders.{HasStoppedSearch, TellsTask}
use Rattle.rob_worst.specs.Finding.{HasSearchCause, Searches}
use Rattle.rob_worst.specs.Tasks.{IsTaskOf}
use Rattle.rob_worst.specs.declared.task.Task.{Task}
use Rattle.rob_worst.proofs.FinderLemmas.{search_found, search_stopped}
use Rattle.rob_worst.proofs.finder.Finder.search.Goals as goal

pub returns-in-Err-clause-answer : goal.returns-in-Err-clause-answer
returns-in-Err-clause-answer g c = λ m model s step i some z size h.
    search_stopped g.N.Exact.value g.N.Exact.limit m step i z (g.L.Ledger.wides c.args.ledger.now)
    (g.L.Ledger.wides c.count.new.ledger) c.in-Err.stop
    (subst (λ (r : Result Task Stop). MatchResult r (IsTaskOf m step i z) (HasSearchCause g.N.Exact.limit m step i z))
    c.in-Err.is h) c.count.ensures.counted

pub returns-in-Ok-Ok-clause-answer : goal.returns-in-Ok-Ok-clause-answer
returns-in-Ok-Ok-clause-answer g c = λ m model is step i some z size h.
    let value = g.N.Exact.value in
    let limit = g.N.Exact.limit in
    let t : IsTaskOf m step i z c.in-Ok.task = subst (λ (r : Result Task Stop). MatchResult r (IsTaskOf m step i z)
    (HasSearchCause limit m step i z)) c.in-Ok.is h in
    let told : TellsTask value c.args.set.now c.in-Ok.task c.in-Ok-Ok.worst =
    subst (λ r. MatchResult r (TellsTask value c.args.set.now c.in-Ok.task)
    (λ stop. HasStoppedSearch limit (program_of_set c.args.set.now) c.in-Ok.task.cost stop c.go_on.new.solver))
    c.in-Ok-Ok.field-0-is c.in-Ok-Ok.ensures.found in
    search_found value limit m step i z (g.L.Ledger.wides c.args.ledger.now) (g.L.Ledger.wides c.go_on.new.ledger)
    c.in-Ok-Ok.worst (told m is step i some z size t) c.go_on.ensures.counted.wides

pub returns-in-Ok-Err-clause-answer : goal.returns-in-Ok-Err-clause-answer
returns-in-Ok-Err-clause-answer g c = λ m model is step i some z size h.
    let value = g.N.Exact.value in
    let limit = g.N.Exact.limit in
    let t : IsTaskOf m step i z c.in-Ok.task = subst (λ (r : Result Task Stop). MatchResult r (IsTaskOf m step i z)
    (HasSearchCause limit m step i z)) c.in-Ok.is h in
    subst (λ b. Searches value limit m step i z b (g.L.Ledger.wides c.go_deeper.new.ledger) c.go_deeper.result)
    c.go_on.ensures.counted.wides (c.go_deeper.ensures.answer m is step i some z size t)
