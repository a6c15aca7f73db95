use Rattle.std.proofs.Common.{subst}
use Rattle.rob_number.specs.declared.lp_kind.LpKind.{LpKind}
use Rattle.rob_rows.specs.LinearPrograms.{program_of}
use Rattle.rob_simplex.specs.Endings.{HasAnswered}
use Rattle.rob_tests.proofs.simplex.resumed.Goals as goal

pub resumed_from-requires-clause-resumable : goal.resumed_from-requires-clause-resumable
resumed_from-requires-clause-resumable g c =
    let P = program_of c.args.lp.now in
    let answered = subst (λ (k : LpKind). HasAnswered k c.solve.new.self) c.in-Ok-Optimal.field-0-is
    c.in-Ok-Optimal.ensures.answered in
    (P, c.in-Ok-Optimal.ensures.resumable P c.requires.made answered.1)

pub resumed_from-requires-in-Ok-Unbounded-clause-resumable : goal.resumed_from-requires-in-Ok-Unbounded-clause-resumable
resumed_from-requires-in-Ok-Unbounded-clause-resumable g c =
    let P = program_of c.args.lp.now in
    let answered = subst (λ (k : LpKind). HasAnswered k c.solve.new.self) c.in-Ok-Unbounded.field-0-is
    c.in-Ok-Unbounded.ensures.answered in
    (P, c.in-Ok-Unbounded.ensures.resumable P c.requires.made answered.1)
