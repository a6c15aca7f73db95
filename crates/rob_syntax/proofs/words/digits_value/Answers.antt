use Rattle.std.proofs.Common.{arith}
use Rattle.rob_syntax.proofs.WordLemmas.{digits_more, digits_all}
use Rattle.rob_syntax.proofs.words.digits_value.Goals as goal

pub loop-digit-preserved : goal.loop-digit-preserved
loop-digit-preserved c = record {
  rest = digits_more c.args.digits.now c.loop-digit.digit-index c.loop-digit.value c.with_digit-value.result _
      c.loop-digit-test.true c.with_digit-value.ensures.value c.loop-digit.invariant.rest;
  small = omega (arith, c.with_digit-value.ensures.value);
}

pub returns : goal.returns
returns c =
    record {
      value =
          digits_all c.args.digits.now c.loop-digit.digit-index c.loop-digit.value _ c.loop-digit-test.false
          c.loop-digit.invariant.small c.loop-digit.invariant.rest;
    }
