use Rattle.std.proofs.Common.{List, ap, ◌∙◌, [], ◌∷◌}
use Rattle.std.specs.Prelude.{ℤ, fold}
use Rattle.std.specs.List.{list_any}
use Rattle.std.proofs.lemmas.List.Concat.{flat_map_single}
use Rattle.rob_algebra.proofs.ListLemmas.{drop_at, drop_all}
use Rattle.rob_index.specs.Rules.{is_long_name}
use Rattle.rob_syntax.specs.Known.{texts}
use Rattle.rob_expand.specs.Growing.{add_name, named_at}
use Rattle.rob_expand.proofs.Walks.WalkLemmas.{words_more, words_all, long_more, long_all}
use Rattle.rob_expand.proofs.grow.grow_entries.Goals as goal

pub loop-setting-preserved : goal.loop-setting-preserved
loop-setting-preserved c =
    let f = (λ (e : List ℤ). named_at (texts c.args.own.now.keys) c.args.name.now e ∷ []) in
    let step = drop_at c.args.settings.now c.loop-setting.setting-index c.setting-item.result c.loop-setting-test.true
    c.setting-item.is in
    record {
      words = words_more f (texts c.loop-setting.words.keys) _ _ _ c.setting-item.result step
          (c.in_ok-here.ensures.words
          ∙ ap (λ (vs : List ℤ). fold add_name (texts c.loop-setting.words.keys)
          (named_at (texts c.args.own.now.keys) c.args.name.now vs ∷ [])) c.items.ensures.list)
          c.loop-setting.invariant.words;
      long =
          long_more f c.loop-setting.long c.in_ok-here.here _ _ _ c.setting-item.result step
          (c.in_ok-here.ensures.long
          ∙ ap (λ (vs : List ℤ). list_any is_long_name
          (named_at (texts c.args.own.now.keys) c.args.name.now vs ∷ [])) c.items.ensures.list)
          c.either-long.ensures.either c.loop-setting.invariant.long;
    }

pub returns : goal.returns
returns c =
    let f = (λ (e : List ℤ). named_at (texts c.args.own.now.keys) c.args.name.now e ∷ []) in
    let none = drop_all c.loop-setting.setting-index c.args.settings.now c.loop-setting-test.false in
    let same = flat_map_single (named_at (texts c.args.own.now.keys) c.args.name.now) c.args.settings.now in
    record {
      words =
          words_all f _ _ none c.loop-setting.invariant.words
          ∙ ap (fold add_name (texts c.args.words.now.keys)) same;
      long = long_all f c.loop-setting.long _ none c.loop-setting.invariant.long
          ∙ ap (list_any is_long_name) same;
    }
