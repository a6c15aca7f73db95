use Rattle.std.proofs.Common.{ap, sym, ◌∙◌}
use Rattle.rob_cert.specs.View.{certificate_of, status_of}
use Rattle.rob_cert.specs.declared.certificate.Status.{Status}
use Rattle.rob_model.specs.View.{robust}
use Rattle.rob_check.specs.Conditions.{conditions_as}
use Rattle.rob_check.specs.Verdicts.{verdict}
use Rattle.rob_check.proofs.GivenLemmas.{optimal_plan, unbounded_plan, unbounded_step}
use Rattle.rob_check.proofs.order.check_all.Goals as goal

pub check_optimal-requires-clause-columns : goal.check_optimal-requires-clause-columns
check_optimal-requires-clause-columns g c =
    let value = g.N.Exact.value in
    optimal_plan value (robust value c.args.given.model.now) c.args.given.forms.now c.requires.given.are_forms
    c.args.given.cert.now
    c.in-Optimal.is c.requires.given.shape.parts

pub check_unbounded-requires-clause-columns : goal.check_unbounded-requires-clause-columns
check_unbounded-requires-clause-columns g c =
    let value = g.N.Exact.value in
    unbounded_plan value (robust value c.args.given.model.now) c.args.given.forms.now c.requires.given.are_forms
    c.args.given.cert.now
    c.in-Unbounded.is c.requires.given.shape.parts

pub check_unbounded-requires-clause-step_columns : goal.check_unbounded-requires-clause-step_columns
check_unbounded-requires-clause-step_columns g c =
    let value = g.N.Exact.value in
    unbounded_step value (robust value c.args.given.model.now) c.args.given.forms.now c.requires.given.are_forms
    c.args.given.cert.now
    c.in-Unbounded.is c.requires.given.shape.parts

pub returns-in-Optimal-clause-exact : goal.returns-in-Optimal-clause-exact
returns-in-Optimal-clause-exact g c =
    let value = g.N.Exact.value in
    c.check_optimal.ensures.exact
    ∙ ap (λ (s : Status).
    verdict (conditions_as g.N.Exact.limit (robust value c.args.given.model.now) (status_of s)
    (certificate_of value c.args.given.cert.now))) (sym c.in-Optimal.is)

pub returns-in-Infeasible-clause-exact : goal.returns-in-Infeasible-clause-exact
returns-in-Infeasible-clause-exact g c =
    let value = g.N.Exact.value in
    c.check_infeasible.ensures.exact
    ∙ ap (λ (s : Status).
    verdict (conditions_as g.N.Exact.limit (robust value c.args.given.model.now) (status_of s)
    (certificate_of value c.args.given.cert.now))) (sym c.in-Infeasible.is)

pub returns-in-Unbounded-clause-exact : goal.returns-in-Unbounded-clause-exact
returns-in-Unbounded-clause-exact g c =
    let value = g.N.Exact.value in
    c.check_unbounded.ensures.exact
    ∙ ap (λ (s : Status).
    verdict (conditions_as g.N.Exact.limit (robust value c.args.given.model.now) (status_of s)
    (certificate_of value c.args.given.cert.now))) (sym c.in-Unbounded.is)
