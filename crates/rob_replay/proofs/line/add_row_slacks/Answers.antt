use Rattle.std.proofs.Common.{arith, map, ap, sym, ◌∙◌, [], ◌∷◌}
use Rattle.rob_model.proofs.PartLemmas.{drop_at, each_at_map}
use Rattle.rob_model.specs.View.{plan_of, robust, row_of, scenario_of}
use Rattle.rob_replay.proofs.GatherLemmas.{left_ends, left_next, left_past}
use Rattle.rob_replay.proofs.LineLemmas.{slack_in, slacks_in}
use Rattle.rob_replay.proofs.StopLemmas.{stops_by}
use Rattle.rob_replay.specs.Gathering.{gathered}
use Rattle.rob_replay.specs.Lines.{HasInside, row_slack}
use Rattle.rob_replay.proofs.line.add_row_slacks.Goals as goal

pub returns-in-Err-clause-exact : goal.returns-in-Err-clause-exact
returns-in-Err-clause-exact g c =
    let value = g.N.Exact.value in
    let m = robust value c.args.model.now in
    let plan = plan_of value c.args.plan.now in
    let u = scenario_of value c.args.scenario.now in
    let slack = slack_in value g.N.Exact.limit m plan u in
    let rows = c.args.rows.now in
    let k = c.loop-row.row-index in
    let row = c.row-item.result in
    let so_far = map value c.loop-row.slacks in
    let same = slacks_in value g.N.Exact.limit m plan u rows in
    stops_by (gathered so_far (slack row ∷ []))
    (gathered (map value c.args.slacks.now) (map (row_slack g.N.Exact.limit m plan u) (map (row_of value) rows)))
    c.in-Err.stopped
    (λ none. sym (ap (gathered (map value c.args.slacks.now)) same) ∙ sym c.loop-row.invariant.rest
    ∙ left_ends slack rows k row (drop_at rows k row c.loop-row-test.true c.row-item.is) so_far none)
    (c.in-Err.ensures.gathers (slack row) c.slack_in_row-slack.ensures.exact)

pub loop-row-preserved : goal.loop-row-preserved
loop-row-preserved g c =
    let value = g.N.Exact.value in
    let m = robust value c.args.model.now in
    let slack =
    slack_in value g.N.Exact.limit m (plan_of value c.args.plan.now) (scenario_of value c.args.scenario.now) in
    let rows = c.args.rows.now in
    let k = c.loop-row.row-index in
    let row = c.row-item.result in
    let split = drop_at rows k row c.loop-row-test.true c.row-item.is in
    record {
      rest = sym (left_next slack rows k row split (map value c.loop-row.slacks) (map value c.add.new.list)
          (c.in-Ok.ensures.gathers (slack row) c.slack_in_row-slack.ensures.exact))
          ∙ c.loop-row.invariant.rest;
      inside = (each_at_map (HasInside m) (row_of value) rows k row c.loop-row-test.true c.row-item.is
          c.loop-row.invariant.inside).1;
      ops = omega (arith, c.loop-row.invariant.ops, c.slack_in_row-slack.ensures.counted.ops);
      wides = omega (arith, c.loop-row.invariant.wides, c.slack_in_row-slack.ensures.counted.told.never_fell);
    }

pub returns-clause-exact : goal.returns-clause-exact
returns-clause-exact g c =
    let value = g.N.Exact.value in
    let m = robust value c.args.model.now in
    let plan = plan_of value c.args.plan.now in
    let u = scenario_of value c.args.scenario.now in
    let slack = slack_in value g.N.Exact.limit m plan u in
    let rows = c.args.rows.now in
    sym (ap (gathered (map value c.args.slacks.now)) (slacks_in value g.N.Exact.limit m plan u rows))
    ∙ left_past slack rows c.loop-row.row-index (map value c.loop-row.slacks)
    (gathered (map value c.args.slacks.now) (map slack rows)) (omega (arith, c.loop-row-test.false))
    c.loop-row.invariant.rest
