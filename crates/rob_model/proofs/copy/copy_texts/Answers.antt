use Rattle.rob_model.proofs.CopyLemmas.{copied_more}
use Rattle.rob_model.proofs.copy.copy_texts.Goals as goal

pub loop-text-preserved : goal.loop-text-preserved
loop-text-preserved c =
    copied_more c.args.texts.now c.loop-text.copy c.loop-text.text-index c.loop-text-test.true c.text-item.is
    c.in_ok-next.ensures.equal c.in_ok-push.ensures.appended c.loop-text.invariant
