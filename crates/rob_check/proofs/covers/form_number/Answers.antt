use Rattle.std.proofs.lemmas.Result.{err_from_is_err_and}
use Rattle.std.proofs.Common.{refl}
use Rattle.rob_check.specs.View.{covering_of}
use Rattle.rob_check.proofs.CoverLemmas.{number_stops, number_goes, number_missing}
use Rattle.rob_check.proofs.covers.form_number.Goals as goal

pub returns-in_err-number-clause-exact : goal.returns-in_err-number-clause-exact
returns-in_err-number-clause-exact g c =
    let value = g.N.Exact.value in
    let p = err_from_is_err_and c.from_residual.result c.from_residual.ensures.1 in
    rw p.1 (number_stops g.N.Exact.limit (covering_of value c.args.covering.now) c.args.form.now c.args.row
    c.items.result.now c.index-form-row.result
    c.if-row-form.true c.items.ensures.list c.index-form-row.is c.in_err-number.ensures.exact)

pub returns-in_ok-number-clause-exact : goal.returns-in_ok-number-clause-exact
returns-in_ok-number-clause-exact g c =
    let value = g.N.Exact.value in
    number_goes g.N.Exact.limit (covering_of value c.args.covering.now) c.args.form.now c.args.row
    c.items.result.now c.index-form-row.result
    c.if-row-form.true c.items.ensures.list c.index-form-row.is (value c.in_ok-number.number) _
    c.in_ok-number.ensures.exact c.mul.ensures.exact

pub returns-else-row-form-clause-exact : goal.returns-else-row-form-clause-exact
returns-else-row-form-clause-exact g c =
    let value = g.N.Exact.value in
    number_missing g.N.Exact.limit (covering_of value c.args.covering.now) c.args.form.now c.args.row _ _ refl
    c.if-row-form.false (value c.zero-nothing.result) _ c.zero-nothing.ensures.value c.mul-else-row-form.ensures.exact
