use Rattle.std.proofs.Common.{arith, sym, ◌∙◌, map, length, [], ◌∷◌, ◌<◌}
use Rattle.rob_model.specs.View.{adaptive_of, plan_of, robust, scenario_of}
use Rattle.rob_model.specs.Within.{policy_within}
use Rattle.rob_replay.proofs.LineLemmas.{few_policies, policies_next, policies_stop}
use Rattle.rob_replay.proofs.StopLemmas.{stops_by}
use Rattle.rob_replay.specs.Gathering.{all_of, gathered}
use Rattle.rob_replay.specs.Lines.{policies_within}
use Rattle.rob_replay.proofs.line.policies.Goals as goal

pub overflow_cast-k : goal.overflow_cast-k
overflow_cast-k g c =
    let ys = c.args.model.now.adaptives in
    let inside : c.loop-k.k < length ys = omega (arith, c.loop-k-test.true, c.loop-k.invariant.count) in
    omega (
      arith,
      few_policies g.N.Exact.value (length (robust g.N.Exact.value c.args.model.now).variables) ys
          c.requires.valid.limits.columns c.loop-k.k inside,
    )

pub returns-in-Err-clause-exact : goal.returns-in-Err-clause-exact
returns-in-Err-clause-exact g c =
    let value = g.N.Exact.value in
    let limit = g.N.Exact.limit in
    let m = robust value c.args.model.now in
    let plan = plan_of value c.args.plan.now in
    let u = scenario_of value c.args.scenario.now in
    let ys = c.args.model.now.adaptives in
    let k = c.loop-k.k in
    let so_far = map value c.loop-k.values in
    let inside : k < length ys = omega (arith, c.loop-k-test.true, c.loop-k.invariant.count) in
    stops_by (gathered so_far (policy_within limit m plan u k ∷ []))
    (all_of (policies_within limit m plan u 0 (map (adaptive_of value) ys))) c.in-Err.stopped
    (λ none. sym c.loop-k.invariant.rest ∙ policies_stop value limit m plan u ys k so_far inside none)
    (c.in-Err.ensures.gathers (policy_within limit m plan u k) c.policy_at-value.ensures.exact)

pub loop-k-preserved : goal.loop-k-preserved
loop-k-preserved g c =
    let value = g.N.Exact.value in
    let limit = g.N.Exact.limit in
    let m = robust value c.args.model.now in
    let plan = plan_of value c.args.plan.now in
    let u = scenario_of value c.args.scenario.now in
    let ys = c.args.model.now.adaptives in
    let k = c.loop-k.k in
    let inside : k < length ys = omega (arith, c.loop-k-test.true, c.loop-k.invariant.count) in
    record {
      rest = sym (policies_next value limit m plan u ys k (map value c.loop-k.values) inside (map value c.add.new.list)
          (c.in-Ok.ensures.gathers (policy_within limit m plan u k) c.policy_at-value.ensures.exact))
          ∙ c.loop-k.invariant.rest;
      count = c.loop-k.invariant.count;
      ops = omega (arith, c.loop-k.invariant.ops, c.policy_at-value.ensures.counted.ops);
      wides = omega (arith, c.loop-k.invariant.wides, c.policy_at-value.ensures.counted.told.never_fell);
    }
