use Rattle.std.proofs.Common.{arith, ap, length, map, ◌∙◌}
use Rattle.std.proofs.lemmas.List.{length-map}
use Rattle.rob_cert.specs.View.{item_of}
use Rattle.rob_model.specs.View.{robust}
use Rattle.rob_check.specs.Conditions.{inside_tests, items_tests}
use Rattle.rob_check.proofs.OrderLemmas.{inside_is, items_are}
use Rattle.rob_check.proofs.VerdictLemmas.{goes, stops}
use Rattle.rob_check.proofs.order.check_base.Goals as goal

pub check_items-requires-clause-few : goal.check_items-requires-clause-few
check_items-requires-clause-few g c =
    omega (
      arith,
      c.requires.given.shape.items.few,
      length-map c.args.given.cert.now.items (item_of g.N.Exact.value),
      ap length c.items-in-Accepted.ensures.list,
    )

pub returns-in-Accepted-clause-exact : goal.returns-in-Accepted-clause-exact
returns-in-Accepted-clause-exact g c =
    let value = g.N.Exact.value in
    let m = robust value c.args.given.model.now in
    let cert = c.args.given.cert.now in
    items_are value g.N.Exact.limit m c.items-in-Accepted.result.now cert.items _ c.items-in-Accepted.ensures.list
    c.check_items.ensures.exact
    ∙ goes (inside_tests g.N.Exact.limit m (map value cert.inside.values))
    (items_tests g.N.Exact.limit m 0 (map (item_of value) cert.items))
    (inside_is value g.N.Exact.limit m c.one-once.result c.items.result.now cert.inside.values _
    c.one-once.ensures.value c.items.ensures.list c.in-Accepted.ensures.exact)

pub returns-in_default-clause-exact : goal.returns-in_default-clause-exact
returns-in_default-clause-exact g c =
    let value = g.N.Exact.value in
    let m = robust value c.args.given.model.now in
    let cert = c.args.given.cert.now in
    stops (inside_tests g.N.Exact.limit m (map value cert.inside.values))
    (items_tests g.N.Exact.limit m 0 (map (item_of value) cert.items))
    c.check_vector.result c.in_default.not-Accepted
    (inside_is value g.N.Exact.limit m c.one-once.result c.items.result.now cert.inside.values _
    c.one-once.ensures.value c.items.ensures.list c.check_vector.ensures.exact)
