use Rattle.std.proofs.Common.{arith, rules}
use Rattle.rob_lex.proofs.OffenceLemmas.{free_here, free_unless_token, bad_byte_here, too_many_here}
use Rattle.rob_lex.proofs.offence.next_piece.Goals as goal
use Rattle.rob_lex.proofs.offence.next_piece.Goals.{else-depth-room-via-then-depth-room+else-rest-eq40, else-depth-room-via-else-depth-room}

pub returns-then-rest-lt128 : goal.returns-then-rest-lt128
returns-then-rest-lt128 c = record {
  piece = bad_byte_here c.args.at.now c.args.rest.now c.requires.some c.if-rest-lt128.true c.in_default.ensures.piece;
}

pub returns-then-at-ge-MOST_TOKENS : goal.returns-then-at-ge-MOST_TOKENS
returns-then-at-ge-MOST_TOKENS c = record {
  piece =
      too_many_here c.args.at.now c.args.rest.now c.in-Some.found c.in-Lexeme.field-0 c.in-Some.ensures.piece
      c.in-Lexeme.is c.if-at-ge-MOST_TOKENS.true;
}

pub returns-else-depth-room : goal.returns-else-depth-room
returns-else-depth-room c = record {
  piece =
      free_here c.args.at.now c.args.rest.now c.in-Some.found c.in-Some.ensures.piece
      (λ _ _. c.if-at-ge-MOST_TOKENS.false)
      (λ deep paren. elim c.else-depth-room.branch [
        | else-depth-room-via-then-depth-room+else-rest-eq40 w ↦ w.if-rest-eq40.false (search rules)
        | else-depth-room-via-else-depth-room w ↦
            absurd (omega (arith, deep, w.if-depth-room.false, c.depth.ensures.depth, c.weight-room.ensures.weight))
      ]);
}

pub returns-in_default-shape : goal.returns-in_default-shape
returns-in_default-shape c = record {
  piece =
      free_unless_token c.args.at.now c.args.rest.now c.in-Some.found c.in-Some.ensures.piece
      c.in_default-shape.not-Lexeme;
}
