use Rattle.rob_model.proofs.CopyLemmas.{copied_more}
use Rattle.rob_model.proofs.copy.copy_set_lines.Goals as goal

pub loop-line-preserved : goal.loop-line-preserved
loop-line-preserved g c =
    copied_more c.args.lines.now c.loop-line.copy c.loop-line.line-index c.loop-line-test.true c.line-item.is
    c.in_ok-next.ensures.equal c.in_ok-push.ensures.appended c.loop-line.invariant
