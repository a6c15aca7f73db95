use Rattle.std.proofs.Common.{map, arith}
use Rattle.rob_sweep.proofs.TextLemmas.{text_all, text_more}
use Rattle.rob_sweep.specs.SweepText.{sweep_text}
use Rattle.rob_sweep.specs.View.{answer_of}
use Rattle.rob_sweep.proofs.text.sweep_text.Goals as goal

pub loop-i-preserved : goal.loop-i-preserved
loop-i-preserved g c =
    let value = g.N.Exact.value in
    text_more value (answer_of value) c.args.limits.now c.args.answers.now c.loop-i.i
    (sweep_text (map value c.args.limits.now) (map (answer_of value) c.args.answers.now)) c.index-limits-i.result
    c.index-answers-i.result
    c.loop-i.text c.put_answer.new.out c.loop-i-test.true
    (omega (arith, c.requires.count, c.loop-i-test.true)) c.index-limits-i.is
    c.index-answers-i.is c.in_ok-put_answer.ensures.appended c.loop-i.invariant

pub returns : goal.returns
returns g c =
    let value = g.N.Exact.value in
    record {
      text = text_all value (answer_of value) c.args.limits.now c.args.answers.now c.loop-i.i
          (sweep_text (map value c.args.limits.now) (map (answer_of value) c.args.answers.now))
          c.loop-i.text c.loop-i-test.false
          c.loop-i.invariant;
    }
