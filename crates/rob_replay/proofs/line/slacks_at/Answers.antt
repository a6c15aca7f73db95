use Rattle.std.proofs.Common.{subst, map, List, ◌≡◌, Some}
use Rattle.rob_model.specs.View.{adaptive_of, plan_of, robust, row_of, scenario_of}
use Rattle.rob_model.specs.declared.model.Adaptive.{Adaptive}
use Rattle.rob_model.specs.declared.model.RowDef.{RowDef}
use Rattle.rob_replay.proofs.StopLemmas.{all_gathered, first_stops, second_stops}
use Rattle.rob_replay.specs.Gathering.{gathered}
use Rattle.rob_replay.specs.Lines.{bound_slacks, row_slack}
use Rattle.rob_replay.specs.Stops.{StopsAt}
use Rattle.rob_replay.proofs.line.slacks_at.Goals as goal

pub returns-in-Err-clause-exact : goal.returns-in-Err-clause-exact
returns-in-Err-clause-exact g c =
    let value = g.N.Exact.value in
    let limit = g.N.Exact.limit in
    let m = robust value c.args.model.now in
    let slack = row_slack limit m (plan_of value c.args.plan.now) (scenario_of value c.args.scenario.now) in
    let old = c.new-slacks.result in
    let ys = bound_slacks limit (map (adaptive_of value) c.args.model.now.adaptives) (map value c.args.values.now) in
    first_stops value old c.new-slacks.ensures.empty
    (map slack (map (row_of value) c.args.model.now.rows)) ys c.in-Err.stopped
    (subst (λ (rs : List (RowDef g.row.N.Denot)).
    StopsAt (gathered (map value old) (map slack (map (row_of value) rs))) c.in-Err.stopped)
    c.items.ensures.list c.in-Err.ensures.exact)

pub returns-in-Err-add_all_bound_slacks-clause-exact : goal.returns-in-Err-add_all_bound_slacks-clause-exact
returns-in-Err-add_all_bound_slacks-clause-exact g c =
    let value = g.N.Exact.value in
    let limit = g.N.Exact.limit in
    let m = robust value c.args.model.now in
    let slack = row_slack limit m (plan_of value c.args.plan.now) (scenario_of value c.args.scenario.now) in
    let old = c.new-slacks.result in
    let mid = c.add_row_slacks.new.slacks in
    let ys = bound_slacks limit (map (adaptive_of value) c.args.model.now.adaptives) (map value c.args.values.now) in
    second_stops value old c.new-slacks.ensures.empty (map slack (map (row_of value) c.args.model.now.rows)) ys mid
    c.in-Err-add_all_bound_slacks.stopped
    (subst (λ (rs : List (RowDef g.row.N.Denot)). gathered (map value old) (map slack (map (row_of value) rs))
    ≡ Some (map value mid)) c.items.ensures.list c.in-Ok.ensures.exact)
    (subst (λ (zs : List (Adaptive g.row.N.Denot)).
    StopsAt (gathered (map value mid)
    (bound_slacks limit (map (adaptive_of value) zs) (map value c.args.values.now)))
    c.in-Err-add_all_bound_slacks.stopped)
    c.items-in-Ok.ensures.list c.in-Err-add_all_bound_slacks.ensures.exact)

pub returns-in-Ok-add_all_bound_slacks-clause-exact : goal.returns-in-Ok-add_all_bound_slacks-clause-exact
returns-in-Ok-add_all_bound_slacks-clause-exact g c =
    let value = g.N.Exact.value in
    let limit = g.N.Exact.limit in
    let m = robust value c.args.model.now in
    let slack = row_slack limit m (plan_of value c.args.plan.now) (scenario_of value c.args.scenario.now) in
    let old = c.new-slacks.result in
    let mid = c.add_row_slacks.new.slacks in
    let last = c.add_all_bound_slacks.new.slacks in
    let ys = bound_slacks limit (map (adaptive_of value) c.args.model.now.adaptives) (map value c.args.values.now) in
    all_gathered value old c.new-slacks.ensures.empty (map slack (map (row_of value) c.args.model.now.rows)) ys mid last
    (subst (λ (rs : List (RowDef g.row.N.Denot)). gathered (map value old) (map slack (map (row_of value) rs))
    ≡ Some (map value mid)) c.items.ensures.list c.in-Ok.ensures.exact)
    (subst (λ (zs : List (Adaptive g.row.N.Denot)).
    gathered (map value mid) (bound_slacks limit (map (adaptive_of value) zs) (map value c.args.values.now))
    ≡ Some (map value last))
    c.items-in-Ok.ensures.list c.in-Ok-add_all_bound_slacks.ensures.exact)
