use Rattle.rob_top.proofs.Ending.EndsLemmas.{ends_memory}
use Rattle.rob_top.proofs.top.put_memory.Goals as goal

pub returns-clause-line : goal.returns-clause-line
returns-clause-line g c = ends_memory _ c.put.result c.put.ensures.took c.put.ensures.noted
