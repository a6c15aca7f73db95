use Rattle.std.proofs.Common.{arith, sym, subst, map, ◌∙◌, List}
use Rattle.std.specs.Prelude.{None}
use Rattle.rob_cert.specs.View.{certificate_of, item_of}
use Rattle.rob_cert.specs.declared.certificate.Item as program
use Rattle.rob_meaning.specs.Places.{Each}
use Rattle.rob_model.specs.View.{robust}
use Rattle.rob_check.specs.Conditions.{base_tests, items_sum_tests}
use Rattle.rob_check.specs.View.{TakesForm}
use Rattle.rob_check.proofs.GivenLemmas.{each_takes}
use Rattle.rob_check.proofs.OrderLemmas.{sums_are}
use Rattle.rob_check.proofs.VerdictLemmas.{goes, stops}
use Rattle.rob_check.proofs.order.check_infeasible.Goals as goal

pub check_sums-requires : goal.check_sums-requires
check_sums-requires g c =
    let value = g.N.Exact.value in
    let m = robust value c.args.given.model.now in
    let given = c.requires.given in
    record {
      fits = given.forms_fit;
      few = omega (arith, given.are_forms.columns, given.valid.limits.columns);
      items = subst (λ (xs : List (program.Item g.row.N.Denot)).
          Each (TakesForm c.args.given.forms.now.matrices) (map (item_of value) xs)) (sym c.items.ensures.list)
          (each_takes m c.args.given.forms.now given.are_forms (map (item_of value) c.args.given.cert.now.items)
          given.shape.items.each);
    }

pub returns-in-Accepted-clause-exact : goal.returns-in-Accepted-clause-exact
returns-in-Accepted-clause-exact g c =
    let value = g.N.Exact.value in
    let m = robust value c.args.given.model.now in
    let given = c.requires.given in
    let cert = certificate_of value c.args.given.cert.now in
    sums_are value g.N.Exact.limit m c.args.given.forms.now given.are_forms c.items.result.now
    c.args.given.cert.now.items None _
    c.items.ensures.list c.check_sums.ensures.exact
    ∙ goes (base_tests g.N.Exact.limit m cert) (items_sum_tests g.N.Exact.limit m None cert) c.in-Accepted.ensures.exact

pub returns-in_default-clause-exact : goal.returns-in_default-clause-exact
returns-in_default-clause-exact g c =
    let value = g.N.Exact.value in
    let m = robust value c.args.given.model.now in
    let cert = certificate_of value c.args.given.cert.now in
    stops (base_tests g.N.Exact.limit m cert) (items_sum_tests g.N.Exact.limit m None cert) c.check_base.result
    c.in_default.not-Accepted c.check_base.ensures.exact
