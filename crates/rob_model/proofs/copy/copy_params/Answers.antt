use Rattle.rob_model.proofs.CopyLemmas.{copied_more}
use Rattle.rob_model.proofs.copy.copy_params.Goals as goal

pub loop-param-preserved : goal.loop-param-preserved
loop-param-preserved g c =
    copied_more c.args.params.now c.loop-param.copy c.loop-param.param-index c.loop-param-test.true c.param-item.is
    c.in_ok-next.ensures.equal c.in_ok-push.ensures.appended c.loop-param.invariant
