use Rattle.std.proofs.Common.{◌∙◌, subst, inr}
use Rattle.rob_number.proofs.CountLemmas.{only_later}
use Rattle.rob_simplex.specs.Dictionaries.{columns_of}
use Rattle.rob_simplex.specs.Explicit.{HasTurnedExplicit, StopsFirst}
use Rattle.rob_simplex.proofs.Turns.FirstTurns.{explicit_leaves}
use Rattle.rob_simplex.proofs.Places.Sizes.{sized_after}
use Rattle.rob_simplex.proofs.dictionary.Dictionary.drive_out.Goals as goal

pub turn_explicit-requires : goal.turn_explicit-requires
turn_explicit-requires g c =
    record { stands = (c.requires.stands.0, c.turns.invariant.stands c.requires.stands.0 c.requires.stands.1) }

pub returns-in-Ok-Ended-clause-ended : goal.returns-in-Ok-Ended-clause-ended
returns-in-Ok-Ended-clause-ended g c P h =
    let x =
    subst (λ v. HasTurnedExplicit P v c.turns.self c.turn_explicit.new.self) c.in-Ok-Ended.field-0-is
    (c.in-Ok-Ended.ensures.turned P (c.turns.invariant.stands P h)) in
    inr (c.positions.ensures.positions ∙ x.stands.holds.rows_are, x)

pub returns-in-Ok-Left-clause-ended : goal.returns-in-Ok-Left-clause-ended
returns-in-Ok-Left-clause-ended g c P h =
    let x =
    subst (λ v. HasTurnedExplicit P v c.turns.self c.turn_explicit.new.self) c.in-Ok-Left.field-0-is
    (c.in-Ok-Left.ensures.turned P (c.turns.invariant.stands P h)) in
    explicit_leaves P c.turn_explicit.new.self c.restore_objective.new.self x.0 x.1
    c.restore_objective.ensures.objective c.restore_objective.ensures.rows c.restore_objective.ensures.basis
    c.restore_objective.ensures.sized.columns

pub turns-preserved : goal.turns-preserved
turns-preserved g c = record {
  stands =
      λ P h. (subst (λ v. HasTurnedExplicit P v c.turns.self c.turn_explicit.new.self) c.in-Ok-Stays.field-0-is
      (c.in-Ok-Stays.ensures.turned P (c.turns.invariant.stands P h))).0;
  sized = sized_after c.turns.invariant.sized c.turn_explicit.ensures.sized;
  counted = only_later c.turns.invariant.counted c.turn_explicit.ensures.counted;
}

pub turns-smaller : goal.turns-smaller
turns-smaller g c =
    (subst (λ v. HasTurnedExplicit c.requires.stands.0 v c.turns.self c.turn_explicit.new.self) c.in-Ok-Stays.field-0-is
    (c.in-Ok-Stays.ensures.turned c.requires.stands.0
    (c.turns.invariant.stands c.requires.stands.0 c.requires.stands.1))).1

pub returns-in-Err-clause-ended : goal.returns-in-Err-clause-ended
returns-in-Err-clause-ended g c P h =
    subst (λ l. StopsFirst l P (columns_of c.turn_explicit.new.self.basis) c.in-Err.i) c.turns.invariant.sized.limit
    (c.in-Err.ensures.wide P (c.turns.invariant.stands P h))
