use Rattle.rob_model.proofs.CopyLemmas.{copied_more}
use Rattle.rob_model.proofs.copy.copy_adaptives.Goals as goal

pub loop-adaptive-preserved : goal.loop-adaptive-preserved
loop-adaptive-preserved g c =
    copied_more c.args.adaptives.now c.loop-adaptive.copy c.loop-adaptive.adaptive-index c.loop-adaptive-test.true
    c.adaptive-item.is c.in_ok-next.ensures.equal c.in_ok-push.ensures.appended c.loop-adaptive.invariant
