use Rattle.std.proofs.Common.{ℕ, List, [], ◌∷◌, ◌++◌, ap, ◌∙◌}
use Rattle.std.specs.Prelude.{ℤ}
use Rattle.std.proofs.lemmas.List.Concat.{flat_map_single}
use Rattle.rob_algebra.proofs.ListLemmas.{drop_at, drop_all}
use Rattle.rob_syntax.specs.declared.syntax.Member.{Member}
use Rattle.rob_syntax.specs.Known.{texts}
use Rattle.rob_expand.specs.Making.{entry_at}
use Rattle.rob_expand.proofs.Walks.WalkLemmas.{made_more, made_all}
use Rattle.rob_expand.proofs.instance.append_entries.Goals as goal

pub loop-setting-preserved : goal.loop-setting-preserved
loop-setting-preserved c =
    let f : List ℤ → Member =
    entry_at (texts c.args.names.own.now.keys) (texts c.args.names.words.now.keys) c.args.name.now c.args.spread in
    let step = drop_at c.args.settings.now c.loop-setting.setting-index c.setting-item.result c.loop-setting-test.true
    c.setting-item.is in
    made_more (λ (e : List ℤ). f e ∷ []) c.loop-setting.members _ _ _ c.setting-item.result step
    (c.in_ok-push.ensures.appended
    ∙ ap (λ (n : ℕ). c.loop-setting.members ++ record { name = n; spread = c.args.spread } ∷ [])
    c.in_ok-name.ensures.number
    ∙ ap (λ (e : List ℤ). c.loop-setting.members ++ f e ∷ []) c.items.ensures.list)
    c.loop-setting.invariant

pub returns : goal.returns
returns c = record {
  appended =
      let f : List ℤ → Member =
      entry_at (texts c.args.names.own.now.keys) (texts c.args.names.words.now.keys) c.args.name.now c.args.spread in
      made_all (λ (e : List ℤ). f e ∷ []) c.loop-setting.members _
      (drop_all c.loop-setting.setting-index c.args.settings.now c.loop-setting-test.false) c.loop-setting.invariant
      ∙ ap (λ (l : List Member). c.args.members.now ++ l) (flat_map_single f c.args.settings.now);
}
