use Rattle.std.proofs.Common.{◌≡◌, List, length, sym, ap, ◌∙◌, arith}
use Rattle.std.specs.Prelude.{ℤ}
use Rattle.std.proofs.lemmas.Result.{err_from_is_err_and}
use Rattle.rob_index.specs.Forms.{extensions}
use Rattle.rob_settings.specs.Room.{left_of}
use Rattle.rob_expand.specs.Lines.{items_left}
use Rattle.rob_settings.proofs.AnswerLemmas.{refused}
use Rattle.rob_expand.proofs.Walks.LineLemmas.{items_crowded, items_end}
use Rattle.rob_expand.proofs.line.spend_items.Goals as goal

pub returns-in_err-settings : goal.returns-in_err-settings
returns-in_err-settings c = record {
  left =
      let p = err_from_is_err_and c.from_residual.result c.from_residual.ensures.1 in
      refused c.from_residual.result _
      (left_of (length (extensions c.item-item.result.ranges c.args.values.now)) c.loop-item.left)
      (items_left c.args.begins c.args.items.now c.args.values.now c.args.room)
      c.in_err-settings.field-0.0 p.0 p.1 p.2
      (λ none. items_crowded c.args.values.now c.args.items.now c.loop-item.item-index c.loop-item.first
      c.loop-item.left c.item-item.result c.loop-item-test.true c.item-item.is c.loop-item.invariant.left none)
      c.in_err-settings.ensures.most;
}

pub returns : goal.returns
returns c = record {
  left =
      sym c.loop-item.invariant.left
      ∙ items_end c.args.values.now c.args.items.now c.loop-item.item-index c.loop-item.first c.loop-item.left
      c.loop-item-test.false;
}

pub overflow_cast-entries : goal.overflow_cast-entries
overflow_cast-entries c =
    let same : length c.items.result.now ≡ length (extensions c.item-item.result.ranges c.args.values.now) =
    ap (λ (l : List (List ℤ)). length l) (c.items.ensures.list ∙ c.in_ok-settings.ensures.settings) in
    omega (arith, same, c.in_ok-settings.ensures.most, c.loop-item.invariant.within, c.ranges.room.fits)
