use Rattle.rob_model.proofs.CopyLemmas.{copied_more}
use Rattle.rob_model.proofs.copy.copy_rows.Goals as goal

pub loop-row-preserved : goal.loop-row-preserved
loop-row-preserved g c =
    copied_more c.args.rows.now c.loop-row.copy c.loop-row.row-index c.loop-row-test.true c.row-item.is
    c.in_ok-next.ensures.equal c.in_ok-push.ensures.appended c.loop-row.invariant
