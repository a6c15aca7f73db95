use Rattle.std.proofs.Common.{ap, subst, sym, ◌∙◌, map, length, List}
use Rattle.std.proofs.lemmas.List.{length-map}
use Rattle.rob_model.specs.View.{adaptive_of, plan_of, robust, scenario_of}
use Rattle.rob_replay.proofs.LineLemmas.{inside_stops, policies_count}
use Rattle.rob_replay.proofs.StopLemmas.{stops_by}
use Rattle.rob_replay.specs.Gathering.{all_of}
use Rattle.rob_replay.specs.Lines.{inside_within, slacks_within}
use Rattle.rob_replay.specs.Stops.{StopsAt}
use Rattle.rob_replay.proofs.line.line_inside.Goals as goal

pub slacks_at-requires-clause-lengths : goal.slacks_at-requires-clause-lengths
slacks_at-requires-clause-lengths g c =
    let value = g.N.Exact.value in
    sym (length-map c.args.model.now.adaptives (adaptive_of value))
    ∙ policies_count g.N.Exact.limit (robust value c.args.model.now) (plan_of value c.args.plan.now)
    (scenario_of value c.args.scenario.now) 0
    (map (adaptive_of value) c.args.model.now.adaptives) (map value c.in-Ok.adaptives) c.in-Ok.ensures.exact
    ∙ length-map c.in-Ok.adaptives value
    ∙ ap length (sym c.items.ensures.list)

pub returns-in-Err-slacks_at-clause-exact : goal.returns-in-Err-slacks_at-clause-exact
returns-in-Err-slacks_at-clause-exact g c =
    let value = g.N.Exact.value in
    let limit = g.N.Exact.limit in
    let m = robust value c.args.model.now in
    let plan = plan_of value c.args.plan.now in
    let u = scenario_of value c.args.scenario.now in
    let xs = map value c.in-Ok.adaptives in
    stops_by (all_of (slacks_within limit m plan u xs)) (inside_within limit m plan c.args.number u)
    c.in-Err-slacks_at.stopped
    (inside_stops limit m plan u c.args.number xs (value c.in-Ok-value_at.objective) c.in-Ok.ensures.exact
    c.in-Ok-value_at.ensures.exact)
    (subst (λ (ns : List g.row.N.Denot).
    StopsAt (all_of (slacks_within limit m plan u (map value ns))) c.in-Err-slacks_at.stopped) c.items.ensures.list
    c.in-Err-slacks_at.ensures.exact)
