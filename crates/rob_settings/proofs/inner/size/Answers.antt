use Rattle.std.proofs.Common.{ap, sym, ◌∙◌}
use Rattle.std.specs.Prelude.{ℤ, ◌*ℤ◌}
use Rattle.std.proofs.lemmas.Result.{IfOk-weaker}
use Rattle.rob_algebra.proofs.WholeNumbers.{size_is}
use Rattle.rob_settings.proofs.InnerLemmas.{opposite_size}
use Rattle.rob_settings.proofs.inner.size.Goals as goal

pub returns-then-is_negative : goal.returns-then-is_negative
returns-then-is_negative c = record {
  size =
      IfOk-weaker c.times.result _ _
      (λ w e. e
      ∙ ap (λ (k : ℤ). k *ℤ c.args.number.now) c.small-minus_one.ensures.value
      ∙ opposite_size c.args.number.now (sym c.is_negative.ensures.negative ∙ c.if-is_negative.true))
      c.times.ensures.product;
}

pub returns-else-is_negative : goal.returns-else-is_negative
returns-else-is_negative c = record {
  size =
      IfOk-weaker c.copy.result _ _
      (λ w e. e ∙ sym (size_is c.args.number.now (sym c.is_negative.ensures.negative ∙ c.if-is_negative.false)))
      c.copy.ensures.same;
}
