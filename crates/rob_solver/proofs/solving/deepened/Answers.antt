use Rattle.rob_solver.proofs.SolvingLemmas.{begun_weightless, deep_limits}
use Rattle.rob_solver.proofs.solving.deepened.Goals as goal

pub deepened-requires-clause-weightless : goal.deepened-requires-clause-weightless
deepened-requires-clause-weightless g c = begun_weightless c.requires.begun.0 c.args.narrow c.requires.begun.1.begun

pub returns-clause-limit : goal.returns-clause-limit
returns-clause-limit g c = deep_limits c.args.narrow c.deepened.result c.deepened.ensures.stands
