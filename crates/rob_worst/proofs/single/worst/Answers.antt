use Rattle.std.proofs.lemmas.Result.{err_from_is_err_and}
use Rattle.rob_worst.proofs.FinderLemmas.{set_stopped, then_searched}
use Rattle.rob_worst.proofs.single.worst.Goals as goal

pub new-requires-clause-model : goal.new-requires-clause-model
new-requires-clause-model g c =
    record { model = c.requires.model.model; is_set = c.requires.model.is_set; fits = c.requires.model.set_fits }

pub returns-in_err-finder-clause-answer : goal.returns-in_err-finder-clause-answer
returns-in_err-finder-clause-answer g c =
    let p = err_from_is_err_and c.from_residual.result c.from_residual.ensures.1 in
    rw (p.1, p.2) (λ m model f s.
    set_stopped g.N.Exact.value g.N.Exact.limit m _ c.args.form _ _ _ c.in_err-finder.field-0.0
    (c.in_err-finder.ensures.answer m model s) c.in_err-finder.ensures.wides)

pub returns-clause-answer : goal.returns-clause-answer
returns-clause-answer g c = λ m model f s.
    then_searched g.N.Exact.value g.N.Exact.limit m _ c.args.form _ _ _ _ c.at_plan.result c.in_ok-finder.ensures.wides
    (c.in_ok-finder.ensures.answer m model s) (c.at_plan.ensures.answer m model f s)
