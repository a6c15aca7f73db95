use Rattle.std.proofs.Common.{subst}
use Rattle.rob_number.specs.declared.lp_kind.LpKind.{LpKind}
use Rattle.rob_dualize.specs.SetSolving.{program_of_set}
use Rattle.rob_worst.specs.Finders.{HasSearched}
use Rattle.rob_worst.proofs.reading.told.Goals as goal

pub greatest-requires-clause-searched : goal.greatest-requires-clause-searched
greatest-requires-clause-searched g c = subst (λ (k : LpKind). HasSearched (program_of_set c.args.set.now)
    c.args.task.now.cost k c.args.solver.now) c.in-Optimal.is c.requires.searched
