use Rattle.std.proofs.Common.{rules}
use Rattle.rob_lex.proofs.PieceLemmas.{found_word, found_digits, found_comment}
use Rattle.rob_lex.proofs.piece.front_piece.Goals as goal

pub returns-then-begins_word : goal.returns-then-begins_word
returns-then-begins_word c =
    let run = c.run_piece.ensures in
    record { piece = found_word _ c.args.bytes.now run.shape run.within (cc) run.run }

pub returns-then-is_digit : goal.returns-then-is_digit
returns-then-is_digit c =
    let run = c.run_piece-then-is_digit.ensures in
    record { piece = found_digits _ c.args.bytes.now run.shape run.within (cc) run.run }

pub returns-then-first-eq35 : goal.returns-then-first-eq35
returns-then-first-eq35 c =
    let run = c.run_piece-then-first-eq35.ensures in
    record { piece = found_comment _ c.args.bytes.now run.shape run.within (search rules) run.run }
