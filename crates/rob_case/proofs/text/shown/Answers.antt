use Rattle.rob_case.proofs.SpellingLemmas.{all_shown, byte_shown}
use Rattle.rob_case.proofs.AnswerLemmas.{explains_any, raised}
use Rattle.rob_case.proofs.text.shown.Goals as goal
use Rattle.std.proofs.Common.{string_bytes, ◌∙◌}

pub loop-byte-preserved : goal.loop-byte-preserved
loop-byte-preserved c =
    byte_shown (string_bytes c.loop-byte.text) _ c.args.bytes.now c.loop-byte.byte-index c.loop-byte-test.true
    c.in_ok-show.ensures.shown ∙ c.loop-byte.invariant

pub returns-in_err-show : goal.returns-in_err-show
returns-in_err-show c = record {
  shown = raised _ _ _ _ c.from_residual.ensures.1 (explains_any _ _ _ c.in_err-show.ensures.shown);
}

pub returns : goal.returns
returns c = record {
  shown = all_shown (string_bytes c.loop-byte.text) c.args.bytes.now c.loop-byte.byte-index c.loop-byte-test.false
      c.loop-byte.invariant;
}
