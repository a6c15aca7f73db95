use Rattle.std.proofs.Common.{◌≡◌, sym, subst, Some, None}
use Rattle.rob_number.proofs.CountLemmas.{only_later, only_same}
use Rattle.rob_linear.specs.WideRows.{HasWideRowFrom}
use Rattle.rob_simplex.specs.Dictionaries.{columns_of}
use Rattle.rob_simplex.specs.Begun.{StandsFrom}
use Rattle.rob_simplex.specs.Phases.{HasTurned}
use Rattle.rob_simplex.proofs.Pivoting.BegunTurns.{begun_where}
use Rattle.rob_simplex.proofs.Turns.PathsFrom.{from_here, one_turn, ends_from, refused_from}
use Rattle.rob_simplex.proofs.Places.Sizes.{sized_same, sized_after}
use Rattle.rob_simplex.proofs.dictionary.Dictionary.improve.Goals as goal

pub returns-in-Ok-Optimal-clause-told : goal.returns-in-Ok-Optimal-clause-told
returns-in-Ok-Optimal-clause-told g c P h =
    let i = c.turns.invariant.stands P h in
    let told =
    subst (λ v. HasTurned P v c.turns.self c.advance.new.self) c.in-Ok-Optimal.field-0-is
    (c.in-Ok-Optimal.ensures.turned P i.0) in
    ends_from P (columns_of c.args.self.now.basis) None c.turns.self c.advance.new.self i.0 i.1 told.0 told.1

pub returns-in-Ok-Unbounded-clause-told : goal.returns-in-Ok-Unbounded-clause-told
returns-in-Ok-Unbounded-clause-told g c P h =
    let i = c.turns.invariant.stands P h in
    let told =
    subst (λ v. HasTurned P v c.turns.self c.advance.new.self) c.in-Ok-Unbounded.field-0-is
    (c.in-Ok-Unbounded.ensures.turned P i.0) in
    ends_from P (columns_of c.args.self.now.basis) (Some c.in-Ok-Unbounded.column) c.turns.self c.advance.new.self i.0
    i.1 told.0 told.1

pub turns-init : goal.turns-init
turns-init g c = record {
  stands = λ P h. (h, from_here P c.args.self.now h);
  sized = sized_same;
  counted = only_same;
}

pub turns-preserved : goal.turns-preserved
turns-preserved g c = record {
  stands = λ P h.
      let i = c.turns.invariant.stands P h in
      let told =
      subst (λ v. HasTurned P v c.turns.self c.advance.new.self) c.in-Ok-Replaced.field-0-is
      (c.in-Ok-Replaced.ensures.turned P i.0) in
      (told.0, one_turn P (columns_of c.args.self.now.basis) c.turns.self c.advance.new.self i.1 told.1);
  sized = sized_after c.turns.invariant.sized c.advance.ensures.sized;
  counted = only_later c.turns.invariant.counted c.advance.ensures.counted;
}

pub turns-smaller : goal.turns-smaller
turns-smaller g c =
    (subst (λ v. HasTurned c.requires.stands.0 v c.turns.self c.advance.new.self) c.in-Ok-Replaced.field-0-is
    (c.in-Ok-Replaced.ensures.turned c.requires.stands.0
    (c.turns.invariant.stands c.requires.stands.0 c.requires.stands.1).0)).2

pub returns-in-Err-clause-told : goal.returns-in-Err-clause-told
returns-in-Err-clause-told g c P h =
    let i = c.turns.invariant.stands P h in
    subst (λ l. HasWideRowFrom l P (columns_of c.args.self.now.basis) (columns_of c.advance.new.self.basis)
    c.in-Err.halt.position) c.turns.invariant.sized.limit
    (refused_from c.turns.self.limit P (columns_of c.args.self.now.basis) c.turns.self c.advance.new.self
    c.in-Err.halt.position i.1 (c.in-Err.ensures.wide P i.0))

pub returns-in-Err-clause-begun : goal.returns-in-Err-clause-begun
returns-in-Err-clause-begun g c P h =
    begun_where (λ t. t ≡ c.turns.self) (StandsFrom P (columns_of c.args.self.now.basis))
    (λ t e. subst (StandsFrom P (columns_of c.args.self.now.basis)) (sym e) (c.turns.invariant.stands P h))
    c.in-Err.halt.cause c.advance.new.self c.in-Err.ensures.begun
