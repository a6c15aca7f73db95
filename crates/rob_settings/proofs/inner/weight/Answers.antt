use Rattle.std.proofs.Common.{ap, ◌∙◌}
use Rattle.std.specs.Prelude.{ℤ, pos, nat_abs}
use Rattle.std.proofs.lemmas.Result.{IfOk-weaker}
use Rattle.rob_settings.proofs.InnerLemmas.{innermost_none, innermost_some}
use Rattle.rob_settings.proofs.inner.weight.Goals as goal

pub returns-in-empty : goal.returns-in-empty
returns-in-empty c = record {
  weight =
      c.small.ensures.value
      ∙ ap (λ (z : ℤ). pos (nat_abs z))
      (innermost_none c.factors.result.now c.args.form.now.factors c.factors.ensures.factors c.in-empty.len_below);
}

pub returns-in-len1-up : goal.returns-in-len1-up
returns-in-len1-up c = record {
  weight =
      IfOk-weaker c.size.result _ _
      (λ w e. e
      ∙ ap (λ (z : ℤ). pos (nat_abs z))
      (innermost_some c.factors.result.now c.args.form.now.factors c.factor-item.result c.factors.ensures.factors
      c.in-len1-up.len_at_least c.factor-item.is)) c.size.ensures.size;
}
