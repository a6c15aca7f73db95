use Rattle.std.proofs.Common.{◌≤◌, sym, subst, inl}
use Rattle.rob_linear.specs.WideRows.{HasWideRow}
use Rattle.rob_simplex.specs.Dictionaries.{columns_of}
use Rattle.rob_simplex.specs.Explicit.{FirstEnds, StopsFirst}
use Rattle.rob_simplex.proofs.Telling.JudgingLemmas.{wide_below}
use Rattle.rob_simplex.proofs.dictionary.Dictionary.follow.Goals as goal

pub improve_to_end-requires : goal.improve_to_end-requires
improve_to_end-requires g c =
    let r = c.requires.starts in
    record {
      stands = (
        r.0,
        subst (λ v. FirstEnds r.0 v c.first_phase.new.self) c.in-Ok-Feasible.field-0-is
            (c.in-Ok-Feasible.ensures.ended r.0 r.1),
      );
      limit = subst (λ l. g.N.Exact.limit ≤ l) (sym c.first_phase.ensures.sized.limit) c.requires.limit;
    }

pub returns-in-Ok-Feasible-clause-told : goal.returns-in-Ok-Feasible-clause-told
returns-in-Ok-Feasible-clause-told g c P h =
    c.improve_to_end.ensures.told P
    (subst (λ v. FirstEnds P v c.first_phase.new.self) c.in-Ok-Feasible.field-0-is (c.in-Ok-Feasible.ensures.ended P h))

pub returns-in-Ok-Infeasible-clause-told : goal.returns-in-Ok-Infeasible-clause-told
returns-in-Ok-Infeasible-clause-told g c P h = (
  subst (λ v. FirstEnds P v c.first_phase.new.self) c.in-Ok-Infeasible.field-0-is
      (c.in-Ok-Infeasible.ensures.ended P h),
  tt,
)

pub returns-in-Err-clause-told : goal.returns-in-Err-clause-told
returns-in-Err-clause-told g c P h =
    wide_below g.N.Exact.limit c.args.self.now.limit c.requires.limit P (columns_of c.first_phase.new.self.basis)
    c.in-Err.i (c.in-Err.ensures.ended P h).row

pub returns-in-Ok-Feasible-clause-caused : goal.returns-in-Ok-Feasible-clause-caused
returns-in-Ok-Feasible-clause-caused g c P h =
    c.improve_to_end.ensures.caused P
    (subst (λ v. FirstEnds P v c.first_phase.new.self) c.in-Ok-Feasible.field-0-is (c.in-Ok-Feasible.ensures.ended P h))

pub returns-in-Err-clause-caused : goal.returns-in-Err-clause-caused
returns-in-Err-clause-caused g c P h =
    inl (subst (λ l. HasWideRow l P (columns_of c.first_phase.new.self.basis) c.in-Err.i)
    (sym c.first_phase.ensures.sized.limit) (c.in-Err.ensures.ended P h).row)

pub returns-in-Ok-Feasible-clause-halted : goal.returns-in-Ok-Feasible-clause-halted
returns-in-Ok-Feasible-clause-halted g c P h =
    c.improve_to_end.ensures.halted P
    (subst (λ v. FirstEnds P v c.first_phase.new.self) c.in-Ok-Feasible.field-0-is (c.in-Ok-Feasible.ensures.ended P h))

pub returns-in-Err-clause-halted : goal.returns-in-Err-clause-halted
returns-in-Err-clause-halted g c P h =
    subst (λ l. StopsFirst l P (columns_of c.first_phase.new.self.basis) c.in-Err.i)
    (sym c.first_phase.ensures.sized.limit) (c.in-Err.ensures.ended P h)
