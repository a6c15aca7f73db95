use Rattle.std.proofs.Common.{◌≡◌, List, ap, ◌∙◌, map}
use Rattle.std.specs.Prelude.{ℤ, fold}
use Rattle.std.specs.List.{list_any}
use Rattle.rob_algebra.proofs.ListLemmas.{drop_at, drop_all}
use Rattle.rob_index.specs.Rules.{is_long_name}
use Rattle.rob_syntax.specs.Known.{texts}
use Rattle.rob_index.specs.Forms.{extensions}
use Rattle.rob_settings.specs.declared.item.Item.{Item}
use Rattle.rob_expand.specs.Growing.{add_name, item_names, named_at}
use Rattle.rob_expand.proofs.Walks.WalkLemmas.{words_more, words_all, long_more, long_all}
use Rattle.rob_expand.proofs.grow.grow_items.Goals as goal

pub loop-item-preserved : goal.loop-item-preserved
loop-item-preserved c =
    let f = (λ (x : Item). item_names (texts c.args.own.now.keys) x c.args.values.now) in
    let settings : c.items.result.now ≡ extensions c.item-item.result.ranges c.args.values.now =
    c.items.ensures.list ∙ c.in_ok-settings.ensures.settings in
    let step = drop_at c.args.items.now c.loop-item.item-index c.item-item.result c.loop-item-test.true c.item-item.is
    in
    record {
      words = words_more f (texts c.loop-item.words.keys) _ _ _ c.item-item.result step
          (c.in_ok-here.ensures.words
          ∙ ap (λ (es : List (List ℤ)). fold add_name (texts c.loop-item.words.keys)
          (map (named_at (texts c.args.own.now.keys) c.item-item.result.name) es)) settings)
          c.loop-item.invariant.words;
      long =
          long_more f c.loop-item.long c.in_ok-here.here _ _ _ c.item-item.result step
          (c.in_ok-here.ensures.long
          ∙ ap (λ (es : List (List ℤ)). list_any is_long_name
          (map (named_at (texts c.args.own.now.keys) c.item-item.result.name) es)) settings)
          c.either-long.ensures.either c.loop-item.invariant.long;
    }

pub returns : goal.returns
returns c =
    let f = (λ (x : Item). item_names (texts c.args.own.now.keys) x c.args.values.now) in
    let none = drop_all c.loop-item.item-index c.args.items.now c.loop-item-test.false in
    record {
      words = words_all f _ _ none c.loop-item.invariant.words;
      long = long_all f c.loop-item.long _ none c.loop-item.invariant.long;
    }
