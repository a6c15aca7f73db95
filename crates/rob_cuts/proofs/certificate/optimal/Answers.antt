use Rattle.std.proofs.Common.{map, length, refl, ap, ◌∙◌}
use Rattle.rob_cert.specs.View.{cover_of}
use Rattle.rob_meaning.specs.Certificates.{optimal}
use Rattle.rob_meaning.specs.Places.{at}
use Rattle.rob_simplex.specs.Solutions.{dual_of}
use Rattle.rob_dualize.proofs.CertificateLemmas.{are_told, count_told, parts_same}
use Rattle.rob_dualize.proofs.ReadingLemmas.{told_at}
use Rattle.rob_cuts.proofs.ItemLemmas.{items_told-same}
use Rattle.rob_cuts.proofs.certificate.optimal.Goals as goal

pub items-requires-2-clause-weights : goal.items-requires-2-clause-weights
items-requires-2-clause-weights g c =
    count_told (are_told g.N.Exact.value c.items.ensures.list c.in_ok-weights.ensures.numbers)

pub returns : goal.returns
returns g c =
    let value = g.N.Exact.value in
    record {
      certificate = parts_same optimal
          refl
          refl
          refl
          (ap (map value) c.new.ensures.empty)
          c.whole.ensures.value
          refl
          (ap (map (cover_of value)) c.new-2.ensures.empty)
          (c.in_ok-items.ensures.items
          ∙ items_told-same c.args.forms c.args.rounds.now (at (map g.N.Exact.value c.items.result.now))
          (dual_of c.args.solver.now)
          (λ q l. told_at value c.items.result.now (length c.args.rounds.now) (dual_of c.args.solver.now)
          (ap (map value) c.items.ensures.list ∙ c.in_ok-weights.ensures.numbers) q l));
    }
