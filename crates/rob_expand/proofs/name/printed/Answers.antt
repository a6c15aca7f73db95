use Rattle.std.proofs.Common.{ap, sym, ◌∙◌}
use Rattle.std.specs.Prelude.{ℤ, int_lt}
use Rattle.rob_expand.proofs.Expanding.PrintLemmas.{printed_below, printed_over, printed_within}
use Rattle.rob_expand.proofs.name.printed.Goals as goal

pub returns-then-is_negative : goal.returns-then-is_negative
returns-then-is_negative c = record { printed = printed_below c.args.value.now (sym c.if-is_negative.ensures.negative) }

pub returns-then-branch : goal.returns-then-branch
returns-then-branch c = record {
  printed =
      printed_over c.args.value.now
      (ap (λ (z : ℤ). int_lt z c.args.value.now) (sym c.small-most.ensures.value)
      ∙ (sym c.in_ok-is_less.ensures.less ∙ c.if-branch.true));
}

pub returns : goal.returns
returns c = record {
  printed =
      c.unsigned_abs.ensures.value
      ∙ printed_within c.args.value.now c.low.result (sym c.if-is_negative.ensures.negative)
      (ap (λ (z : ℤ). int_lt z c.args.value.now) (sym c.small-most.ensures.value)
      ∙ (sym c.in_ok-is_less.ensures.less ∙ c.if-branch.false))
      c.low.ensures.low;
}
