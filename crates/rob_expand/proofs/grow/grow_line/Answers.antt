use Rattle.std.proofs.Common.{◌≡◌, List, ap, ◌∙◌}
use Rattle.std.specs.Prelude.{fold, option_to_list}
use Rattle.std.specs.List.{flat_map, list_any}
use Rattle.rob_index.specs.Rules.{is_long_name}
use Rattle.rob_syntax.specs.Known.{texts}
use Rattle.rob_settings.specs.declared.item.Item.{Item}
use Rattle.rob_expand.specs.Growing.{add_name, item_names, over_at}
use Rattle.rob_settings.specs.Spots.{picks}
use Rattle.rob_expand.proofs.Walks.WalkLemmas.{words_along, long_along, four_words, four_long}
use Rattle.rob_expand.proofs.Counting.ThinLemmas.{thin_names}
use Rattle.rob_expand.proofs.Expanding.NameLemmas.{factor_names_at}
use Rattle.rob_expand.proofs.grow.grow_line.Goals as goal

pub returns : goal.returns
returns c =
    let own = texts c.args.own.now.keys in
    let vs = c.args.values.now in
    let line = c.args.line.now in
    let tree = factor_names_at own vs in
    let item = λ (x : Item). item_names own x vs in
    let head = option_to_list (over_at own line.head vs) in
    let over = option_to_list (over_at own line.over vs) in
    let same : flat_map item (picks c.items-2.result.now c.args.kept.now) ≡ flat_map item line.items =
    ap (λ (xs : List Item). flat_map item (picks xs c.args.kept.now)) c.items-2.ensures.list
    ∙ thin_names line.items c.args.kept.now vs c.requires.thin own in
    record {
      words =
          four_words (texts c.args.words.now.keys) _ _ _ _ head (flat_map tree line.trees) (flat_map item line.items)
          over
          c.in_ok-head.ensures.words
          (words_along tree _ _ c.items.ensures.list _ _ c.in_ok-trees.ensures.words)
          (c.in_ok-items.ensures.words ∙ ap (fold add_name _) same)
          c.in_ok-over.ensures.words;
      long =
          four_long head (flat_map tree line.trees) (flat_map item line.items) over
          c.in_ok-head.head c.in_ok-trees.trees c.in_ok-items.items c.in_ok-over.over
          _ _ _ c.in_ok-head.ensures.long
          (long_along tree _ _ c.items.ensures.list _ c.in_ok-trees.ensures.long)
          (c.in_ok-items.ensures.long ∙ ap (list_any is_long_name) same)
          c.in_ok-over.ensures.long c.either-last.ensures.either c.either-behind.ensures.either
          c.either-long.ensures.either;
    }
