use Rattle.std.proofs.Common.{sym, subst}
use Rattle.rob_index.specs.Counting.{lines_tokens}
use Rattle.rob_index.specs.Expansion.{expand}
use Rattle.rob_syntax.specs.Seen.{seen_statement}
use Rattle.rob_settings.specs.declared.room.Stop.{Stop}
use Rattle.rob_settings.specs.Room.{left_of, HasStop}
use Rattle.rob_settings.proofs.RoomLemmas.{some_fits, none_fits}
use Rattle.rob_expand.proofs.fits.has_room.Goals as goal

pub returns-in-Ok : goal.returns-in-Ok
returns-in-Ok c = record {
  room = λ words.
      sym (some_fits (lines_tokens c.args.limit (expand words (seen_statement c.args.statement.now))) c.args.room.now
      c.in-Ok.left (c.in-Ok.ensures.left words));
  left = λ t words. c.in-Ok.ensures.left words;
}

pub returns-in-Err-TooMuch : goal.returns-in-Err-TooMuch
returns-in-Err-TooMuch c = record {
  room = λ words.
      let tokens = lines_tokens c.args.limit (expand words (seen_statement c.args.statement.now)) in
      sym (none_fits tokens c.args.room.now
      (subst (λ (e : Stop). HasStop (left_of tokens c.args.room.now) e) c.in-Err-TooMuch.field-0-is
      (c.in-Err-TooMuch.ensures.left words)));
  left = λ t words. cc;
}
