use Rattle.std.proofs.Common.{subst, Some, None}
use Rattle.rob_simplex.specs.Dictionaries.{columns_of}
use Rattle.rob_simplex.specs.Judging.{Tells}
use Rattle.rob_simplex.specs.Phases.{EndsFrom}
use Rattle.rob_simplex.proofs.Pivoting.BegunTurns.{halts_on}
use Rattle.rob_simplex.proofs.Telling.Causes.{stops_on}
use Rattle.rob_simplex.proofs.Turns.PathsFrom.{second_from, wide_from}
use Rattle.rob_simplex.proofs.dictionary.Dictionary.improve_to_end.Goals as goal

pub improve_and_judge-requires : goal.improve_and_judge-requires
improve_and_judge-requires g c =
    record { stands = (c.requires.stands.0, c.requires.stands.1.own); limit = c.requires.limit }

pub returns-in-Ok-None-clause-told : goal.returns-in-Ok-None-clause-told
returns-in-Ok-None-clause-told g c P h =
    let told =
    subst (λ v. EndsFrom P (columns_of c.args.self.now.basis) v c.improve_and_judge.new.self
    × Tells g.N.Exact.limit v c.improve_and_judge.new.self) c.in-Ok-None.field-0-is
    (c.in-Ok-None.ensures.told P h.own) in
    (second_from P c.args.self.now c.improve_and_judge.new.self None h told.0, told.1)

pub returns-in-Ok-Some-clause-told : goal.returns-in-Ok-Some-clause-told
returns-in-Ok-Some-clause-told g c P h =
    let told =
    subst (λ v. EndsFrom P (columns_of c.args.self.now.basis) v c.improve_and_judge.new.self
    × Tells g.N.Exact.limit v c.improve_and_judge.new.self) c.in-Ok-Some.field-0-is
    (c.in-Ok-Some.ensures.told P h.own) in
    (second_from P c.args.self.now c.improve_and_judge.new.self (Some c.in-Ok-Some.column) h told.0, told.1)

pub returns-in-Err-clause-told : goal.returns-in-Err-clause-told
returns-in-Err-clause-told g c P h =
    wide_from g.N.Exact.limit P c.args.self.now (columns_of c.improve_and_judge.new.self.basis) c.in-Err.halt.position h
    (c.in-Err.ensures.told P h.own)

pub returns-in-Err-clause-caused : goal.returns-in-Err-clause-caused
returns-in-Err-clause-caused g c P h =
    stops_on g.N.Exact.limit P c.args.self.now c.improve_and_judge.new.self c.in-Err.halt.position h
    (c.in-Err.ensures.caused P h.own)

pub returns-in-Err-clause-halted : goal.returns-in-Err-clause-halted
returns-in-Err-clause-halted g c P h =
    halts_on g.N.Exact.limit P c.args.self.now c.improve_and_judge.new.self c.in-Err.halt.position c.in-Err.halt.cause h
    (c.in-Err.ensures.halted P h.own)
