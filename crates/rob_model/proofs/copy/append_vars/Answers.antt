use Rattle.rob_model.proofs.CopyLemmas.{copied_more}
use Rattle.rob_model.proofs.copy.append_vars.Goals as goal

pub loop-var-preserved : goal.loop-var-preserved
loop-var-preserved g c =
    copied_more c.args.vars.now c.loop-var.list c.loop-var.var-index c.loop-var-test.true c.var-item.is
    c.in_ok-next.ensures.equal c.in_ok-push.ensures.appended c.loop-var.invariant
