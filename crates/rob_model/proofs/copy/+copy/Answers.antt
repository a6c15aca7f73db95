use Rattle.rob_model.proofs.CopyLemmas.{copied_more}
use Rattle.rob_model.proofs.copy.+copy.Goals as goal

pub copy_factors-loop-factor-preserved : goal.copy_factors-loop-factor-preserved
copy_factors-loop-factor-preserved g t c =
    copied_more c.args.factors.now c.loop-factor.copy c.loop-factor.factor-index c.loop-factor-test.true
    c.factor-item.is c.in_ok-next.ensures.equal c.in_ok-push.ensures.appended c.loop-factor.invariant
