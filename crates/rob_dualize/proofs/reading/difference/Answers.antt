use Rattle.std.proofs.Common.{◌∙◌, inl, inr}
use Rattle.rob_dualize.proofs.ReadingLemmas.{minus_zero, zero_minus}
use Rattle.rob_dualize.proofs.reading.difference.Goals as goal
use Rattle.rob_model.proofs.KeptLemmas.{refuted}

pub returns-then-is_zero : goal.returns-then-is_zero
returns-then-is_zero g c = record {
  value = minus_zero (g.N.Exact.value c.args.first) (g.N.Exact.value c.args.second)
      (c.is_zero.ensures.zero.0 c.if-is_zero.true);
}

pub returns-else-is_zero : goal.returns-else-is_zero
returns-else-is_zero g c = record {
  value = c.neg.ensures.negation ∙ zero_minus (g.N.Exact.value c.args.first) (g.N.Exact.value c.args.second)
      (elim c.requires.one [
        | inl e ↦ e
        | inr e ↦ absurd (refuted c.is_zero.result c.is_zero.ensures.zero c.if-is_zero.false e)
      ]);
}
