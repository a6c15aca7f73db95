use Rattle.std.proofs.Common.{map}
use Rattle.rob_check.specs.Scenario.{taken_place}
use Rattle.rob_check.proofs.ScenarioLemmas.{lower_stops, upper_decides}
use Rattle.rob_check.proofs.scenario.check_bounds.Goals as goal

pub returns-in_default-clause-exact : goal.returns-in_default-clause-exact
returns-in_default-clause-exact g c m =
    let value = g.N.Exact.value in
    lower_stops g.N.Exact.limit m (taken_place c.args.taken) (value c.args.point.base)
    (map value c.args.point.vector.now) value c.args.index c.args.k c.args.param.now _ _ c.judge.result
    c.in_default.not-Accepted c.judge.ensures.exact c.place_of.ensures.place (c.keeps_lower-lower.ensures.exact m)

pub returns-clause-exact : goal.returns-clause-exact
returns-clause-exact g c m =
    let value = g.N.Exact.value in
    upper_decides g.N.Exact.limit m (taken_place c.args.taken) (value c.args.point.base)
    (map value c.args.point.vector.now) value c.args.index c.args.k c.args.param.now _ _ c.in-Accepted.ensures.exact
    c.place_of.ensures.place
    (c.keeps_lower-lower.ensures.exact m) _ _ c.judge-2.result c.judge-2.ensures.exact _ c.declared.ensures.count
    c.place_of-2.ensures.place (c.keeps_upper-upper.ensures.exact m)
