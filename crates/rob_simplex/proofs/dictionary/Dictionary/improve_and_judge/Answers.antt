use Rattle.std.proofs.Common.{sym, subst, inl, inr}
use Rattle.rob_linear.specs.Paths.{LastFrom}
use Rattle.rob_linear.specs.WideRows.{HasWideRowFrom}
use Rattle.rob_simplex.specs.Dictionaries.{columns_of}
use Rattle.rob_simplex.specs.Begun.{StandsFrom}
use Rattle.rob_simplex.proofs.Pivoting.BegunTurns.{halts_begun}
use Rattle.rob_simplex.proofs.Telling.Causes.{ends_wide_from}
use Rattle.rob_simplex.proofs.Telling.JudgingLemmas.{stands_own, growing_low, quotient_first, told_wide_from, wide_below_from}
use Rattle.rob_simplex.proofs.dictionary.Dictionary.improve_and_judge.Goals as goal

pub judge-requires-clause-own : goal.judge-requires-clause-own
judge-requires-clause-own g c =
    stands_own c.requires.stands.0 c.improve.new.self (c.in-Ok.ensures.told c.requires.stands.0 c.requires.stands.1).own

pub returns-in-Some-clause-told : goal.returns-in-Some-clause-told
returns-in-Some-clause-told g c P h =
    let told = c.in-Ok.ensures.told P h in
    let start = columns_of c.args.self.now.basis in
    told_wide_from g.N.Exact.limit P c.improve.new.self told.own start c.in-Some.i told.reached
    c.in-Some.ensures.judged.0
    (quotient_first g.N.Exact.limit c.in-Ok.growing c.improve.new.self (stands_own P c.improve.new.self told.own)
    (growing_low P start c.improve.new.self c.in-Ok.growing told) c.in-Some.i c.in-Some.ensures.judged.1)

pub returns-in-Err-clause-told : goal.returns-in-Err-clause-told
returns-in-Err-clause-told g c P h =
    wide_below_from g.N.Exact.limit c.args.self.now.limit c.requires.limit P (columns_of c.args.self.now.basis)
    (columns_of c.improve.new.self.basis) c.in-Err.halt.position (c.in-Err.ensures.told P h)

pub returns-in-Some-clause-caused : goal.returns-in-Some-clause-caused
returns-in-Some-clause-caused g c P h =
    inr (ends_wide_from g.N.Exact.limit P (columns_of c.args.self.now.basis) c.improve.new.self c.in-Ok.growing
    c.in-Some.i (c.in-Ok.ensures.told P h) c.in-Some.ensures.judged.1)

pub returns-in-Err-clause-caused : goal.returns-in-Err-clause-caused
returns-in-Err-clause-caused g c P h =
    inl
    (subst (λ l. HasWideRowFrom l P (columns_of c.args.self.now.basis) (columns_of c.improve.new.self.basis)
    c.in-Err.halt.position) (sym c.improve.ensures.sized.limit) (c.in-Err.ensures.told P h))

pub returns-in-Some-clause-halted : goal.returns-in-Some-clause-halted
returns-in-Some-clause-halted g c P h =
    ends_wide_from g.N.Exact.limit P (columns_of c.args.self.now.basis) c.improve.new.self c.in-Ok.growing c.in-Some.i
    (c.in-Ok.ensures.told P h) c.in-Some.ensures.judged.1

pub returns-in-Err-clause-halted : goal.returns-in-Err-clause-halted
returns-in-Err-clause-halted g c P h =
    halts_begun (LastFrom P (columns_of c.args.self.now.basis)) (StandsFrom P (columns_of c.args.self.now.basis))
    g.N.Exact.limit P c.in-Err.halt.position c.in-Err.halt.cause c.improve.new.self (c.in-Err.ensures.begun P h)
