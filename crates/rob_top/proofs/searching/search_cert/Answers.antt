use Rattle.std.proofs.Common.{ap, map, sym}
use Rattle.rob_cert.specs.View.{certificate_of, status_of}
use Rattle.rob_model.specs.View.{robust}
use Rattle.rob_commands.proofs.PlanLemmas.{optimal_planned, unbounded_planned}
use Rattle.rob_top.proofs.Meaning.SearchStops.{at_certificate, planned_size}
use Rattle.rob_top.proofs.Meaning.SearchingLemmas.{claims_none_answers, planned_answers}
use Rattle.rob_worst.specs.Vectors.{plan_of}
use Rattle.rob_top.proofs.searching.search_cert.Goals as goal

pub search_plan-requires-clause-size : goal.search_plan-requires-clause-size
search_plan-requires-clause-size g c =
    planned_size g.N.Exact.value (robust g.N.Exact.value c.args.model.now)
    (certificate_of g.N.Exact.value c.args.cert) c.take_plan-plan.result.columns
    c.requires.shape (ap (λ plan. map g.N.Exact.value plan.columns) (sym c.take_plan-plan.ensures.plan))
    (optimal_planned c.args.cert.status c.in-Optimal.is)

pub search_plan-requires-in-Unbounded-clause-size : goal.search_plan-requires-in-Unbounded-clause-size
search_plan-requires-in-Unbounded-clause-size g c =
    planned_size g.N.Exact.value (robust g.N.Exact.value c.args.model.now)
    (certificate_of g.N.Exact.value c.args.cert) c.take_plan-plan.result.columns
    c.requires.shape (ap (λ plan. map g.N.Exact.value plan.columns) (sym c.take_plan-plan.ensures.plan))
    (unbounded_planned c.args.cert.status c.in-Unbounded.is)

pub returns-in-Infeasible-clause-answers : goal.returns-in-Infeasible-clause-answers
returns-in-Infeasible-clause-answers g c =
    claims_none_answers g.N.Exact.limit (robust g.N.Exact.value c.args.model.now) c.args.name.now
    (certificate_of g.N.Exact.value c.args.cert) _ c.no_plan.result (ap status_of c.in-Infeasible.is)
    c.no_plan.ensures.fault

pub returns-in-Optimal-clause-answers : goal.returns-in-Optimal-clause-answers
returns-in-Optimal-clause-answers g c =
    let m = robust g.N.Exact.value c.args.model.now in
    planned_answers g.N.Exact.limit m c.args.name.now (certificate_of g.N.Exact.value c.args.cert) _
    c.search_plan.result (optimal_planned c.args.cert.status c.in-Optimal.is)
    (at_certificate g.N.Exact.value g.N.Exact.limit m c.take_plan-plan.result c.args.name.now _
    (certificate_of g.N.Exact.value c.args.cert) c.search_plan.result
    (ap (plan_of g.N.Exact.value) c.take_plan-plan.ensures.plan) c.search_plan.ensures.answers)

pub returns-clause-answers : goal.returns-clause-answers
returns-clause-answers g c =
    let m = robust g.N.Exact.value c.args.model.now in
    planned_answers g.N.Exact.limit m c.args.name.now (certificate_of g.N.Exact.value c.args.cert) _
    c.search_plan-in-Unbounded.result (unbounded_planned c.args.cert.status c.in-Unbounded.is)
    (at_certificate g.N.Exact.value g.N.Exact.limit m c.take_plan-plan.result c.args.name.now _
    (certificate_of g.N.Exact.value c.args.cert) c.search_plan-in-Unbounded.result
    (ap (plan_of g.N.Exact.value) c.take_plan-plan.ensures.plan) c.search_plan-in-Unbounded.ensures.answers)
