use Rattle.std.proofs.Common.{ap, sym, ◌∙◌}
use Rattle.rob_cert.specs.View.{certificate_of, status_of}
use Rattle.rob_model.specs.View.{sense_of}
use Rattle.rob_reach.specs.Growing.{first_broken, is_beaten, outcome_by}
use Rattle.rob_branch.specs.View.{search_of}
use Rattle.rob_branch.proofs.search.comes_of.Goals as goal

pub returns-in-Unbounded-clause-outcome : goal.returns-in-Unbounded-clause-outcome
returns-in-Unbounded-clause-outcome g c =
    let value = g.N.Exact.value in
    let search_so_far = search_of value c.args.search in
    let cert = certificate_of value c.args.cert.now in
    let beaten = is_beaten (sense_of c.args.sense) search_so_far.best cert.value in
    c.of_ray.ensures.outcome beaten
    ∙ ap (λ s. outcome_by search_so_far cert (status_of s) beaten (first_broken c.args.names.now cert.plan))
    (sym c.in-Unbounded.is)
