use Rattle.std.proofs.Common.{ℕ, List, [], ◌∷◌, ◌++◌, ap, sym, ◌∙◌}
use Rattle.std.specs.Prelude.{ℤ}
use Rattle.std.proofs.lemmas.List.Concat.{flat_map_single}
use Rattle.rob_algebra.proofs.ListLemmas.{map_map, drop_at, drop_all}
use Rattle.rob_syntax.specs.Known.{texts}
use Rattle.rob_syntax.specs.Symbols.{number_of}
use Rattle.rob_expand.specs.Growing.{named_at}
use Rattle.rob_expand.proofs.Walks.WalkLemmas.{made_more, made_all}
use Rattle.rob_expand.proofs.instance.append_numbers.Goals as goal

pub loop-setting-preserved : goal.loop-setting-preserved
loop-setting-preserved c =
    let f : List ℤ → ℕ =
    λ (e : List ℤ). number_of (texts c.args.names.words.now.keys)
    (named_at (texts c.args.names.own.now.keys) c.args.name.now e) in
    let step = drop_at c.args.settings.now c.loop-setting.setting-index c.setting-item.result c.loop-setting-test.true
    c.setting-item.is in
    made_more (λ (e : List ℤ). f e ∷ []) c.loop-setting.numbers _ _ _ c.setting-item.result step
    (c.in_ok-push.ensures.appended
    ∙ ap (λ (n : ℕ). c.loop-setting.numbers ++ n ∷ []) (c.in_ok-number.ensures.number ∙ ap f c.items.ensures.list))
    c.loop-setting.invariant

pub returns : goal.returns
returns c = record {
  appended =
      let f : List ℤ → ℕ =
      λ (e : List ℤ). number_of (texts c.args.names.words.now.keys)
      (named_at (texts c.args.names.own.now.keys) c.args.name.now e)
      in
      made_all (λ (e : List ℤ). f e ∷ []) c.loop-setting.numbers _
      (drop_all c.loop-setting.setting-index c.args.settings.now c.loop-setting-test.false) c.loop-setting.invariant
      ∙ ap (λ (l : List ℕ). c.args.numbers.now ++ l)
      (sym (map_map (number_of (texts c.args.names.words.now.keys))
      (named_at (texts c.args.names.own.now.keys) c.args.name.now)
      c.args.settings.now ∙ sym (flat_map_single f c.args.settings.now)));
}
