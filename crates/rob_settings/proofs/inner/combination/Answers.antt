use Rattle.rob_settings.proofs.InnerLemmas.{nothing_least}
use Rattle.rob_settings.proofs.inner.combination.Goals as goal

pub returns : goal.returns
returns c = record {
  combined = λ vs p q.
      c.in_ok-add_lowered-2.ensures.kept vs q
      (c.in_ok-add_lowered.ensures.kept vs p (nothing_least c.nothing-sum.result vs c.nothing-sum.ensures.nothing));
}
