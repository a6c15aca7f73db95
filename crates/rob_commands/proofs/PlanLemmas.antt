-- What a certificate that proves says of its plan; and which certificates have one.
use Rattle.std.proofs.Common.{◌≡◌, ◌≢◌, length, refl, sym, ap, ◌∙◌}
use Rattle.rob_algebra.specs.Fraction.{◌<ℚ◌}
use Rattle.rob_cert.specs.View.{status_of}
use Rattle.rob_cert.specs.declared.certificate.Status as certificate
use Rattle.rob_cert.specs.declared.certificate.Status.TheVariants as status
use Rattle.rob_meaning.specs.Certificates.{Certificate, Status, optimal, infeasible, unbounded}
use Rattle.rob_meaning.specs.Forms.{plan_vector}
use Rattle.rob_meaning.specs.Guarantee.{HasBound}
use Rattle.rob_meaning.specs.Places.{0ℚ, 1ℚ}
use Rattle.rob_meaning.specs.Proves.{EachCovered, Proves, ProvesAs, amounts_of}
use Rattle.rob_meaning.specs.RobustModel.{RobustModel, column_count}
use Rattle.rob_meaning.specs.UncertaintySet.{Admits}
use Rattle.rob_meaning.specs.WellFormed.{IsModel}
use Rattle.rob_meaning.proofs.Conditions.AdmittedLemmas.{admits_meets}
use Rattle.rob_meaning.proofs.Tables.AtLemmas.{at_bound}
use Rattle.rob_meaning.proofs.Proving.CoverLemmas.{covered_at}
use Rattle.rob_meaning.proofs.Lists.LinearLemmas.{zero_le_one}

module _ (m : RobustModel) (model : IsModel m) where
  pub covered_bound : (c : Certificate) → Admits m c.inside → length c.plan ≡ column_count m → 0ℚ <ℚ c.scale
      → EachCovered m c.covers c.scale (plan_vector 1ℚ c.plan c.value) → HasBound m c.plan c.value
  covered_bound c inside columns some covered =
      at_bound m model c.plan c.value c.inside inside columns
      (λ u admitted i k.
      covered_at m model i k c.scale (plan_vector 1ℚ c.plan c.value) (amounts_of m c.covers i) (covered i k) 1ℚ u some
      zero_le_one (admits_meets m model u admitted))

  -- the plan of one has its bound
  pub proved_bound : (c : Certificate) → Proves m c → c.status ≢ infeasible → HasBound m c.plan c.value
  proved_bound c = by c.status
    where
      by : (status : Status) → ProvesAs status m c → status ≢ infeasible → HasBound m c.plan c.value
      by optimal h some = covered_bound c h.inside h.columns h.scale h.covered
      by infeasible h some = absurd (some refl)
      by unbounded h some = covered_bound c h.inside h.columns h.scale h.covered

-- certificates of these statuses have a plan
pub optimal_planned : (s : certificate.Status) → s ≡ status.Optimal → status_of s ≢ infeasible
optimal_planned s e lacking = let clash : status_of status.Optimal ≡ infeasible = ap status_of (sym e) ∙ lacking in cc

pub unbounded_planned : (s : certificate.Status) → s ≡ status.Unbounded → status_of s ≢ infeasible
unbounded_planned s e lacking =
    let clash : status_of status.Unbounded ≡ infeasible = ap status_of (sym e) ∙ lacking in cc
