use Rattle.std.proofs.Common.{map, length, ap, ◌∙◌}
use Rattle.rob_algebra.specs.Fraction.{of_int}
use Rattle.rob_model.specs.View.{scenario_of}
use Rattle.rob_meaning.specs.Places.{at}
use Rattle.rob_simplex.specs.Solutions.{weights_of}
use Rattle.rob_dualize.specs.Ending.{infeasible_with}
use Rattle.rob_dualize.proofs.CertificateLemmas.{are_told, count_told}
use Rattle.rob_dualize.proofs.ReadingLemmas.{told_at}
use Rattle.rob_cuts.proofs.ItemLemmas.{items_told-same}
use Rattle.rob_cuts.proofs.certificate.infeasible.Goals as goal

pub items-requires-2-clause-weights : goal.items-requires-2-clause-weights
items-requires-2-clause-weights g c =
    count_told (are_told g.N.Exact.value c.items.ensures.list c.in_ok-weights.ensures.numbers)

pub returns : goal.returns
returns g c =
    let value = g.N.Exact.value in
    record {
      certificate = c.with_items.ensures.certificate
          ∙ ap (infeasible_with (scenario_of value c.args.inside))
          (c.in_ok-items.ensures.items
          ∙ items_told-same c.args.forms c.args.rounds.now (at (map g.N.Exact.value c.items.result.now))
          (λ q. of_int (weights_of c.args.solver.now q))
          (λ q l. told_at value c.items.result.now (length c.args.rounds.now)
          (λ q. of_int (weights_of c.args.solver.now q))
          (ap (map value) c.items.ensures.list ∙ c.in_ok-weights.ensures.numbers) q l));
    }
