use Rattle.std.proofs.Common.{ap, sym}
use Rattle.rob_cert.specs.View.{certificate_of, status_of}
use Rattle.rob_model.specs.View.{plan_of, robust}
use Rattle.rob_top.proofs.Meaning.ReplayingLemmas.{at_certificate, plan_answers, planless_answers}
use Rattle.rob_commands.proofs.PlanLemmas.{optimal_planned, unbounded_planned}
use Rattle.rob_top.proofs.replaying.replay_cert.Goals as goal

pub returns-in-Infeasible-clause-answers : goal.returns-in-Infeasible-clause-answers
returns-in-Infeasible-clause-answers g c =
    planless_answers _ _ (certificate_of g.N.Exact.value c.args.cert) c.args.text.now _ c.no_plan.result
    (ap status_of c.in-Infeasible.is) c.no_plan.ensures.fault

pub returns-in-Optimal-clause-answers : goal.returns-in-Optimal-clause-answers
returns-in-Optimal-clause-answers g c =
    plan_answers _ _ (certificate_of g.N.Exact.value c.args.cert) c.args.text.now _ c.replay_plan.result
    (optimal_planned c.args.cert.status c.in-Optimal.is)
    (at_certificate g.N.Exact.limit (robust g.N.Exact.value c.args.model.now)
    (plan_of g.N.Exact.value c.take_plan-plan.result) (g.N.Exact.value c.take_plan-plan.result.bound) c.args.text.now _
    (certificate_of g.N.Exact.value c.args.cert) c.replay_plan.result
    (ap (plan_of g.N.Exact.value) (sym c.take_plan-plan.ensures.plan))
    (ap (λ plan. g.N.Exact.value plan.bound) (sym c.take_plan-plan.ensures.plan)) c.replay_plan.ensures.answers)

pub returns-clause-answers : goal.returns-clause-answers
returns-clause-answers g c =
    plan_answers _ _ (certificate_of g.N.Exact.value c.args.cert) c.args.text.now _ c.replay_plan-in-Unbounded.result
    (unbounded_planned c.args.cert.status c.in-Unbounded.is)
    (at_certificate g.N.Exact.limit (robust g.N.Exact.value c.args.model.now)
    (plan_of g.N.Exact.value c.take_plan-plan.result) (g.N.Exact.value c.take_plan-plan.result.bound) c.args.text.now _
    (certificate_of g.N.Exact.value c.args.cert) c.replay_plan-in-Unbounded.result
    (ap (plan_of g.N.Exact.value) (sym c.take_plan-plan.ensures.plan))
    (ap (λ plan. g.N.Exact.value plan.bound) (sym c.take_plan-plan.ensures.plan))
    c.replay_plan-in-Unbounded.ensures.answers)
