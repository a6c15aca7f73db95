use Rattle.std.proofs.Common.{◌∙◌}
use Rattle.rob_cert.specs.View.{certificate_of}
use Rattle.rob_model.specs.View.{robust}
use Rattle.rob_check.specs.Conditions.{covering_tests, move_tests, plan_covering}
use Rattle.rob_check.proofs.VerdictLemmas.{goes, stops}
use Rattle.rob_check.proofs.order.check_ray.Goals as goal

pub returns-in-Accepted-clause-exact : goal.returns-in-Accepted-clause-exact
returns-in-Accepted-clause-exact g c =
    let value = g.N.Exact.value in
    let m = robust value c.args.given.model.now in
    let cert = certificate_of value c.args.given.cert.now in
    c.check_move.ensures.exact
    ∙ goes (covering_tests g.N.Exact.limit m (plan_covering cert)) (move_tests g.N.Exact.limit m cert)
    c.in-Accepted.ensures.exact

pub returns-in_default-clause-exact : goal.returns-in_default-clause-exact
returns-in_default-clause-exact g c =
    let value = g.N.Exact.value in
    let m = robust value c.args.given.model.now in
    let cert = certificate_of value c.args.given.cert.now in
    stops (covering_tests g.N.Exact.limit m (plan_covering cert)) (move_tests g.N.Exact.limit m cert)
    c.check_plan.result c.in_default.not-Accepted c.check_plan.ensures.exact
