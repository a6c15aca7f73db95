use Rattle.std.proofs.Common.{sym, ◌∙◌}
use Rattle.rob_dualize.proofs.ReadingLemmas.{zero_dropped, not_dropped, all_dropped}
use Rattle.rob_dualize.proofs.reading.are_zero.Goals as goal
use Rattle.rob_model.proofs.KeptLemmas.{refuted}

pub loop-number-preserved : goal.loop-number-preserved
loop-number-preserved g c =
    c.loop-number.invariant
    ∙ zero_dropped g.N.Exact.value c.args.numbers.now c.loop-number.number-index c.number-item.result
    c.loop-number-test.true c.number-item.is (c.is_zero.ensures.zero.0 c.if-not-is_zero.false)

pub returns : goal.returns
returns g c = record {
  zero = sym (c.loop-number.invariant ∙ all_dropped g.N.Exact.value c.args.numbers.now
      c.loop-number.number-index c.loop-number-test.false);
}

pub returns-then-not-is_zero : goal.returns-then-not-is_zero
returns-then-not-is_zero g c = record {
  zero = sym (c.loop-number.invariant
      ∙ not_dropped g.N.Exact.value c.args.numbers.now c.loop-number.number-index c.number-item.result
      c.loop-number-test.true c.number-item.is
      (refuted c.is_zero.result c.is_zero.ensures.zero c.if-not-is_zero.true));
}
