-- What a certificate that proves answers, and what weights of an empty set do.
use Rattle.std.specs.Prelude.{◌≡◌, List}
use Rattle.std.proofs.Common.{sym, subst}
use Rattle.rob_algebra.specs.Fraction.{Fraction}
use Rattle.rob_dualize.specs.Solving.{IsShownEmpty}
use Rattle.rob_meaning.proofs.Proving.ProvesLemmas.{certificate_true}
use Rattle.rob_meaning.specs.Certificates.{Certificate, Status, optimal, infeasible, unbounded}
use Rattle.rob_meaning.specs.Proves.{HasStatus, Proves, ProvesAs}
use Rattle.rob_meaning.specs.RobustModel.{RobustModel}
use Rattle.rob_meaning.specs.WellFormed.{IsModel}
use Rattle.rob_reach.specs.Sweeps.{Answers, SweepAnswer}
use Rattle.rob_sweep.specs.Answering.{HasEmptySet}
use Rattle.rob_sweep.specs.View.{status_answer}

-- ---- certificates
module _ (m : RobustModel) (c : Certificate) where
  pub proved_answer : (a : SweepAnswer) → a ≡ status_answer c.status c.value → IsModel m → Proves m c → Answers m a
  proved_answer a e model proves = subst (Answers m) (sym e) (by c.status proves (certificate_true m model c proves))
    where
      by : (s : Status) → ProvesAs s m c → HasStatus m s c.value → Answers m (status_answer s c.value)
      by optimal p h = (λ none. none c.inside p.inside, h)
      by infeasible p h = (λ none. none c.inside p.inside, h)
      by unbounded p h = (λ none. none c.inside p.inside, h)

-- ---- the empty set
pub shown_names : (m : RobustModel) (weights : List Fraction) → IsShownEmpty m weights → HasEmptySet m
shown_names m weights h = (h.set, h.shows_in.is_set, h.empty_in)
