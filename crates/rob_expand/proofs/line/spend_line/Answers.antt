use Rattle.std.proofs.Common.{List, true, map, refl, ap, ◌∙◌}
use Rattle.std.proofs.lemmas.Result.{err_from_is_err_and}
use Rattle.rob_settings.specs.Room.{left_of}
use Rattle.rob_expand.specs.Placed.{placed_of}
use Rattle.rob_settings.specs.declared.item.Item.{Item}
use Rattle.rob_expand.specs.Lines.{items_left, line_left, trees_left}
use Rattle.rob_settings.specs.Spots.{picks}
use Rattle.rob_settings.proofs.AnswerLemmas.{refused, moved}
use Rattle.rob_expand.proofs.Walks.LineLemmas.{line_baseless, line_treeless, line_behind}
use Rattle.rob_expand.proofs.Counting.ThinLemmas.{thin_left}
use Rattle.rob_expand.proofs.line.spend_line.Goals as goal

pub returns-in_err-left : goal.returns-in_err-left
returns-in_err-left c = record {
  left =
      let p = err_from_is_err_and c.from_residual.result c.from_residual.ensures.1 in
      refused c.from_residual.result _ (left_of c.args.line.now.base c.args.room)
      (line_left c.args.line.now c.args.values.now c.args.room)
      c.in_err-left.field-0.0 p.0 p.1 p.2
      (λ none. line_baseless c.args.line.now c.args.values.now c.args.room none)
      c.in_err-left.ensures.left;
}

pub returns-in_err-left-2 : goal.returns-in_err-left-2
returns-in_err-left-2 c = record {
  left =
      let p = err_from_is_err_and c.from_residual-in_err-left-2.result c.from_residual-in_err-left-2.ensures.1 in
      refused c.from_residual-in_err-left-2.result _
      (trees_left c.args.line.now.limit (map placed_of c.items.result.now) c.args.values.now c.in_ok-left.left)
      (line_left c.args.line.now c.args.values.now c.args.room)
      c.in_err-left-2.field-0.0 p.0 p.1 p.2
      (λ none. line_treeless c.args.line.now c.args.values.now c.args.room c.in_ok-left.left c.in_ok-left.ensures.left
      c.items.result.now c.items.ensures.list none)
      c.in_err-left-2.ensures.left;
}

pub returns : goal.returns
returns c =
    let line = c.args.line.now in
    let vs = c.args.values.now in
    record {
      left =
          moved c.spend_kept.result _ _
          (ap (λ (xs : List Item). items_left true (picks xs c.args.kept.now) vs c.in_ok-left-2.left)
          c.items-2.ensures.list
          ∙ thin_left line.items c.args.kept.now vs c.requires.thin true c.in_ok-left-2.left
          ∙ line_behind line vs c.args.room c.in_ok-left.left c.in_ok-left.ensures.left
          c.items.result.now c.items.ensures.list c.in_ok-left-2.left line.items refl c.in_ok-left-2.ensures.left)
          c.spend_kept.ensures.left;
    }
