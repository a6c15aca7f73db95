use Rattle.rob_cells.proofs.BuildingLemmas.{number_more}
use Rattle.rob_cells.proofs.split.append_number.Goals as goal

pub loop-preserved : goal.loop-preserved
loop-preserved c =
    number_more c.args.list.now c.loop.list c.args.number c.loop.counter c.in_ok-push.ensures.appended c.loop.invariant
