use Rattle.std.proofs.lemmas.Result.{err_from_is_err_and}
use Rattle.std.proofs.Common.{map, ap, sym, ◌∙◌}
use Rattle.std.specs.Prelude.{Some}
use Rattle.rob_model.specs.View.{robust}
use Rattle.rob_model.proofs.SearchLemmas.{search_stops, search_fails, search_goes}
use Rattle.rob_model.proofs.admission.search.Goals as goal

pub returns-in_err-index-clause-exact : goal.returns-in_err-index-clause-exact
returns-in_err-index-clause-exact g c =
    let value = g.N.Exact.value in
    let p = err_from_is_err_and c.from_residual.result c.from_residual.ensures.1 in
    rw p.1 (search_stops g.N.Exact.limit value c.args.model.now (value c.args.base) (map value c.args.vector.now)
    c.items.result.now c.items.ensures.list
    (c.in_err-index.ensures.exact (robust value c.args.model.now)))

pub returns-in-Some-clause-exact : goal.returns-in-Some-clause-exact
returns-in-Some-clause-exact g c =
    let value = g.N.Exact.value in
    search_fails g.N.Exact.limit value c.args.model.now (value c.args.base) (map value c.args.vector.now)
    c.items.result.now c.items.ensures.list c.in-Some.index
    (ap Some (sym c.in-Some.is) ∙ c.in_ok-index.ensures.exact (robust value c.args.model.now))

pub returns-in-None-clause-exact : goal.returns-in-None-clause-exact
returns-in-None-clause-exact g c =
    let value = g.N.Exact.value in
    c.broken_statement.ensures.exact
    ∙ search_goes g.N.Exact.limit value c.args.model.now (value c.args.base) (map value c.args.vector.now)
    c.items.result.now c.items.ensures.list
    c.bound_count-bounds.result c.items-in-None.result.now c.items-in-None.ensures.list
    c.bound_count-bounds.ensures.count
    (ap Some (sym c.in-None.is) ∙ c.in_ok-index.ensures.exact (robust value c.args.model.now))
