use Rattle.std.proofs.Common.{◌≡◌, ℕ, List, ◌++◌, map, ap, sym, ◌∙◌}
use Rattle.std.specs.Prelude.{ℤ}
use Rattle.rob_algebra.proofs.ListLemmas.{drop_at, drop_all}
use Rattle.rob_index.specs.Forms.{extensions}
use Rattle.rob_syntax.specs.Known.{texts}
use Rattle.rob_syntax.specs.Symbols.{number_of}
use Rattle.rob_expand.specs.Growing.{named_at}
use Rattle.rob_expand.proofs.Expanding.MakeLemmas.{item_made, numbers_made}
use Rattle.rob_expand.proofs.Walks.WalkLemmas.{made_more, made_all}
use Rattle.rob_expand.proofs.instance.append_items.Goals as goal

pub loop-item-preserved : goal.loop-item-preserved
loop-item-preserved c =
    let settings : c.items.result.now ≡ extensions c.item-item.result.ranges c.args.values.now =
    c.items.ensures.list ∙ c.in_ok-settings.ensures.settings in
    let step = drop_at c.args.items.now c.loop-item.item-index c.item-item.result c.loop-item-test.true c.item-item.is
    in
    made_more (item_made (texts c.args.names.own.now.keys) (texts c.args.names.words.now.keys) c.args.values.now)
    c.loop-item.numbers _ _ _ c.item-item.result step
    (c.in_ok-append_numbers.ensures.appended
    ∙ ap (λ (es : List (List ℤ)). c.loop-item.numbers
    ++ map (number_of (texts c.args.names.words.now.keys))
    (map (named_at (texts c.args.names.own.now.keys) c.item-item.result.name) es)) settings)
    c.loop-item.invariant

pub returns : goal.returns
returns c = record {
  numbers =
      made_all (item_made (texts c.args.names.own.now.keys) (texts c.args.names.words.now.keys) c.args.values.now)
      c.loop-item.numbers _
      (drop_all c.loop-item.item-index c.args.items.now c.loop-item-test.false) c.loop-item.invariant
      ∙ ap (λ (l : List ℕ). c.args.numbers.now ++ l)
      (sym (numbers_made (texts c.args.names.own.now.keys) (texts c.args.names.words.now.keys) c.args.values.now
      c.args.items.now));
}
