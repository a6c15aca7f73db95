use Rattle.std.proofs.Common.{rules}
use Rattle.rob_model.specs.View.{robust, plan_of, scenario_of, expression_of}
use Rattle.rob_model.proofs.ValueLemmas.{answer_value}
use Rattle.rob_model.proofs.value.value_at.Goals as goal

pub returns-clause-value : goal.returns-clause-value
returns-clause-value g c =
    let value = g.N.Exact.value in
    answer_value g.N.Exact.limit (robust value c.args.model.now) (plan_of value c.args.plan.now)
    (scenario_of value c.args.scenario.now) value (expression_of value c.args.e.now)
    c.evaluate.result (search rules)
