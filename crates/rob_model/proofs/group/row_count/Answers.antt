use Rattle.std.proofs.Common.{sym}
use Rattle.rob_model.proofs.GroupLemmas.{length-rows}
use Rattle.rob_model.proofs.group.row_count.Goals as goal

pub returns-in-Budget : goal.returns-in-Budget
returns-in-Budget g c =
    record {
      count = λ ps n.
          sym (length-rows g.N.Exact.value ps n c.args.line.now c.in-Budget.limit c.in-Budget.members c.items.result.now
          c.in-Budget.is c.items.ensures.list);
    }
