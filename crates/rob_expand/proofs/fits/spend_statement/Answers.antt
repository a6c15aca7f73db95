use Rattle.std.proofs.Common.{List, [], false, length, ap, sym, ◌∙◌}
use Rattle.std.proofs.lemmas.Result.{err_from_is_err_and}
use Rattle.rob_index.specs.Statements.{Name}
use Rattle.rob_index.specs.Counting.{lines_tokens}
use Rattle.rob_index.specs.Expansion.{expand}
use Rattle.rob_index.specs.Forms.{Ends, extensions}
use Rattle.rob_syntax.specs.Seen.{seen_statement}
use Rattle.rob_settings.specs.Room.{left_of}
use Rattle.rob_settings.proofs.AppendLemmas.{thin_moved}
use Rattle.rob_expand.proofs.Counting.FitsLemmas.{moved_all, refused_all, settings_left}
use Rattle.rob_expand.proofs.Counting.LinesLemmas.{expansion_left, expansion_crowded}
use Rattle.rob_expand.proofs.fits.spend_statement.Goals as goal

pub returns-in_err-settings : goal.returns-in_err-settings
returns-in_err-settings c = record {
  left =
      let s = seen_statement c.args.statement.now in
      let p = err_from_is_err_and c.from_residual-in_err-settings.result c.from_residual-in_err-settings.ensures.1 in
      refused_all c.from_residual-in_err-settings.result _
      (left_of (length (extensions c.items.result.now [])) c.args.room)
      (λ (words : List Name). left_of (lines_tokens c.args.limit (expand words s)) c.args.room)
      c.in_err-settings.field-0.0 p.0 p.1 p.2
      (λ words none. expansion_crowded c.args.limit words s _ _ c.in_ok-ranges.ensures.line
      c.args.room
      (ap (λ (rs : List Ends). left_of (length (extensions rs [])) c.args.room) (sym c.items.ensures.list) ∙ none))
      c.in_err-settings.ensures.most;
}

pub spend_lines-requires : goal.spend_lines-requires
spend_lines-requires c = record {
  thin =
      thin_moved false _ _ _ _ _ _ (sym c.items-2.ensures.list) c.items-4.ensures.list
      (c.items-5.ensures.list ∙ sym c.items-3.ensures.list) c.in_ok-kept.ensures.thin;
}

pub returns : goal.returns
returns c = record {
  left =
      let s = seen_statement c.args.statement.now in
      let settings = c.items-5.ensures.list ∙ c.in_ok-settings.ensures.settings
      ∙ ap (λ (rs : List Ends). extensions rs []) c.items.ensures.list in
      moved_all c.spend_lines.result _
      (λ (words : List Name). left_of (lines_tokens c.args.limit (expand words s)) c.args.room)
      c.spend_lines.ensures.left
      (λ words.
      settings_left _ _ _ settings c.args.room
      ∙ expansion_left c.args.limit words s _ _ c.in_ok-ranges.ensures.line c.args.room);
}
