use Rattle.std.proofs.Common.{rules}
use Rattle.rob_model.specs.View.{robust, plan_of, scenario_of}
use Rattle.rob_model.proofs.ValueLemmas.{answer_policy}
use Rattle.rob_model.proofs.policy.policy_at.Goals as goal

pub returns-clause-value : goal.returns-clause-value
returns-clause-value g c =
    let value = g.N.Exact.value in
    answer_policy g.N.Exact.limit (robust value c.args.model.now) (plan_of value c.args.plan.now)
    (scenario_of value c.args.scenario.now) value c.args.adaptive
    c.rule_value.result (search rules)
