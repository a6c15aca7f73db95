use Rattle.std.proofs.Common.{ℕ, ◌≤◌, IfErr, MatchResult, subst}
use Rattle.rob_number.proofs.CountLemmas.{only_later}
use Rattle.rob_simplex.specs.Dictionaries.{columns_of}
use Rattle.rob_simplex.specs.Explicit.{FirstTurns, StopsFirst}
use Rattle.rob_simplex.proofs.Places.Sizes.{sized_after}
use Rattle.rob_simplex.proofs.dictionary.Dictionary.explicit_turns.Goals as goal

pub drive_out-requires : goal.drive_out-requires
drive_out-requires g c =
    record { stands = (c.requires.opened.0, c.in-Ok.ensures.ended c.requires.opened.0 c.requires.opened.1) }

pub returns-in-Ok-clause-ended : goal.returns-in-Ok-clause-ended
returns-in-Ok-clause-ended g c P h =
    subst (λ (l : ℕ). MatchResult c.drive_out.result (λ ending. FirstTurns P ending c.drive_out.new.self)
    (λ i. StopsFirst l P (columns_of c.drive_out.new.self.basis) i)) c.bring_in.ensures.sized.limit
    (c.drive_out.ensures.ended P (c.in-Ok.ensures.ended P h))

pub returns-in-Ok-clause-position : goal.returns-in-Ok-clause-position
returns-in-Ok-clause-position g c =
    subst (λ (m : ℕ). IfErr c.drive_out.result (λ i. i ≤ m)) c.bring_in.ensures.sized.positions
    c.drive_out.ensures.position

pub returns-in-Ok-clause-counted : goal.returns-in-Ok-clause-counted
returns-in-Ok-clause-counted g c = only_later c.bring_in.ensures.counted c.drive_out.ensures.counted

pub returns-in-Ok-clause-sized : goal.returns-in-Ok-clause-sized
returns-in-Ok-clause-sized g c = sized_after c.bring_in.ensures.sized c.drive_out.ensures.sized
