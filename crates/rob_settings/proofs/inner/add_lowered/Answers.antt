use Rattle.std.specs.Prelude.{nat_abs}
use Rattle.rob_index.specs.Forms.{first_factor}
use Rattle.rob_settings.proofs.InnerLemmas.{size_low, added_least}
use Rattle.rob_settings.proofs.inner.add_lowered.Goals as goal

pub returns : goal.returns
returns c = record {
  kept = λ vs p q.
      added_least c.args.sum.now c.in_ok-low.low _ c.in_ok-factor.factor vs
      (size_low c.in_ok-factor.factor (nat_abs (first_factor c.args.other.now.factors)) c.in_ok-factor.ensures.weight)
      c.in_ok-add.ensures.sum (c.in_ok-low.ensures.lowered vs p) q;
}
