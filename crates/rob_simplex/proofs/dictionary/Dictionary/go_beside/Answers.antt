use Rattle.std.proofs.Common.{subst}
use Rattle.rob_number.proofs.CountLemmas.{only_later}
use Rattle.rob_simplex.specs.Phases.{HasTurnedBeside}
use Rattle.rob_simplex.proofs.Turns.BesideRows.{row_own}
use Rattle.rob_simplex.proofs.Places.Sizes.{sized_after}
use Rattle.rob_simplex.proofs.dictionary.Dictionary.go_beside.Goals as goal

pub first_negative-requires-clause-own : goal.first_negative-requires-clause-own
first_negative-requires-clause-own g c = row_own (c.turns.invariant.stands c.requires.stands.0 c.requires.stands.1)

pub turns-smaller : goal.turns-smaller
turns-smaller g c =
    (subst (λ v. HasTurnedBeside c.requires.stands.0 c.args.q v c.turns.self c.turn_beside.new.self)
    c.in-Ok-true.field-0-test
    (c.in-Ok-true.ensures.turned c.requires.stands.0
    (c.turns.invariant.stands c.requires.stands.0 c.requires.stands.1))).1

pub turns-preserved : goal.turns-preserved
turns-preserved g c = record {
  known = c.in-Ok-true.ensures.known;
  stands =
      λ P h. (subst (λ v. HasTurnedBeside P c.args.q v c.turns.self c.turn_beside.new.self) c.in-Ok-true.field-0-test
      (c.in-Ok-true.ensures.turned P (c.turns.invariant.stands P h))).0;
  sized = sized_after c.turns.invariant.sized c.turn_beside.ensures.sized;
  counted = only_later c.turns.invariant.counted c.turn_beside.ensures.counted;
}

pub returns-in-Ok-false-clause-ended : goal.returns-in-Ok-false-clause-ended
returns-in-Ok-false-clause-ended g c P h =
    subst (λ v. HasTurnedBeside P c.args.q v c.turns.self c.turn_beside.new.self) c.in-Ok-false.field-0-test
    (c.in-Ok-false.ensures.turned P (c.turns.invariant.stands P h))

pub returns-in-Err-clause-ended : goal.returns-in-Err-clause-ended
returns-in-Err-clause-ended g c P h = c.in-Err.ensures.opened P (c.turns.invariant.stands P h)
