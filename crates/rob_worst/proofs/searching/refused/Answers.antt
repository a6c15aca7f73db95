use Rattle.std.proofs.Common.{subst}
use Rattle.rob_model.specs.declared.place.Program.{Program}
use Rattle.rob_dualize.specs.Ending.{StopsAt}
use Rattle.rob_dualize.proofs.SolvingLemmas.{wide_counted}
use Rattle.rob_worst.specs.Refusals.{program_for}
use Rattle.rob_worst.proofs.FinderLemmas.{row_stop}
use Rattle.rob_worst.proofs.searching.refused.Goals as goal

pub returns-clause-cause : goal.returns-clause-cause
returns-clause-cause g c = λ m is step i z t.
    row_stop g.N.Exact.limit m c.args.set.now is step i z c.args.task.now t c.args.stopped.solver.now c.requires.depth
    c.args.stopped.stop c.requires.stopped c.position.result c.position.ensures.position c.wide-2.result
    (subst (λ (p : Program). StopsAt c.args.stopped.solver.now.basis p c.position.result c.wide-2.result)
    c.program-program.ensures.program c.wide-2.ensures.stop)

pub returns-clause-wides : goal.returns-clause-wides
returns-clause-wides g c =
    wide_counted (g.L.Ledger.wides c.args.ledger.now) (g.L.Ledger.wides c.wide.new.self) c.args.stopped.solver.now.basis
    (program_for c.args.task.now.by_step c.args.task.now.form) c.position.result c.wide-2.result c.wide.ensures.counted
    (subst (λ (p : Program). StopsAt c.args.stopped.solver.now.basis p c.position.result c.wide-2.result)
    c.program-program.ensures.program c.wide-2.ensures.stop)
