use Rattle.std.proofs.Common.{◌∙◌}
use Rattle.rob_cert.specs.View.{certificate_of}
use Rattle.rob_model.specs.View.{robust}
use Rattle.rob_model.specs.declared.place.Place.TheVariants as At
use Rattle.rob_check.specs.Conditions.{base_tests, ray_tests}
use Rattle.rob_check.specs.Sums.{is_positive}
use Rattle.rob_check.proofs.VerdictLemmas.{goes, sign_fails, sign_holds, stops}
use Rattle.rob_check.proofs.order.check_unbounded.Goals as goal

pub returns-then-not-is_positive-clause-exact : goal.returns-then-not-is_positive-clause-exact
returns-then-not-is_positive-clause-exact g c =
    sign_fails At.Scale (is_positive (g.N.Exact.value c.args.given.cert.now.scale)) _ c.if-not-is_positive.ensures.test

pub returns-in-Accepted-clause-exact : goal.returns-in-Accepted-clause-exact
returns-in-Accepted-clause-exact g c =
    let value = g.N.Exact.value in
    let m = robust value c.args.given.model.now in
    let cert = certificate_of value c.args.given.cert.now in
    c.check_ray.ensures.exact
    ∙ goes (base_tests g.N.Exact.limit m cert) (ray_tests g.N.Exact.limit m cert) c.in-Accepted.ensures.exact
    ∙ sign_holds At.Scale (is_positive (value c.args.given.cert.now.scale)) _ c.if-not-is_positive.ensures.test

pub returns-in_default-clause-exact : goal.returns-in_default-clause-exact
returns-in_default-clause-exact g c =
    let value = g.N.Exact.value in
    let m = robust value c.args.given.model.now in
    let cert = certificate_of value c.args.given.cert.now in
    stops (base_tests g.N.Exact.limit m cert) (ray_tests g.N.Exact.limit m cert) c.check_base.result
    c.in_default.not-Accepted c.check_base.ensures.exact
    ∙ sign_holds At.Scale (is_positive (value c.args.given.cert.now.scale)) _ c.if-not-is_positive.ensures.test
