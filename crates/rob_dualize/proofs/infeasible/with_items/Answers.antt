use Rattle.std.proofs.Common.{map, refl, ap}
use Rattle.rob_cert.specs.View.{cover_of}
use Rattle.rob_meaning.specs.Certificates.{infeasible}
use Rattle.rob_dualize.proofs.CertificateLemmas.{parts_same}
use Rattle.rob_dualize.proofs.infeasible.with_items.Goals as goal

pub returns : goal.returns
returns g c =
    let value = g.N.Exact.value in
    record {
      certificate = parts_same infeasible
          c.whole.ensures.value
          c.whole-2.ensures.value
          (ap (map value) c.new.ensures.empty)
          (ap (map value) c.new-2.ensures.empty)
          c.whole-3.ensures.value
          (ap (map (cover_of value)) c.new-3.ensures.empty)
          (ap (map (cover_of value)) c.new-4.ensures.empty)
          refl;
    }
