use Rattle.std.proofs.Common.{◌≡◌, ℕ, List, [], ◌++◌, map, ap, sym, ◌∙◌}
use Rattle.std.specs.Prelude.{ℤ}
use Rattle.rob_algebra.proofs.ListLemmas.{drop_at, drop_all}
use Rattle.rob_index.specs.Forms.{Ends, extensions}
use Rattle.rob_index.specs.Fast.{names_in, nest_of}
use Rattle.rob_syntax.specs.declared.syntax.Member.{Member}
use Rattle.rob_syntax.specs.declared.syntax.Range.{Range}
use Rattle.rob_syntax.specs.declared.syntax.Spread.{Spread}
use Rattle.rob_syntax.specs.Known.{texts}
use Rattle.rob_syntax.specs.Seen.{seen_ranges, seen_ref}
use Rattle.rob_settings.specs.declared.item.Named.{Named}
use Rattle.rob_expand.specs.Making.{entry_at}
use Rattle.rob_expand.specs.Placing.{placed_name}
use Rattle.rob_expand.proofs.Expanding.MakeLemmas.{share_made, members_made}
use Rattle.rob_expand.proofs.Walks.WalkLemmas.{made_more, made_all}
use Rattle.rob_expand.proofs.instance.append_members.Goals as goal

pub loop-share-preserved : goal.loop-share-preserved
loop-share-preserved c =
    let own = (texts c.args.names.own.now.keys) in
    let words = (texts c.args.names.words.now.keys) in
    let vs = c.args.values.now in
    let share = c.share-item.result in
    let spread : Spread = record { centre = share.item.centre; deviation = share.item.deviation } in
    let ranges : c.items.result.now ≡ share.ranges = c.items.ensures.list in
    let names = c.items-in-loop-share.ensures.list ∙ c.in_ok-nest.ensures.names
    ∙ ap (λ (rs : List Range). names_in [] (seen_ranges rs)) ranges in
    let name = c.in_ok-name.ensures.named ∙ ap (λ (ns : List ℕ). placed_name ns (seen_ref share.item.name)) names in
    let ends = c.items-in-loop-share-2.ensures.list ∙ c.in_ok-nest.ensures.ends
    ∙ ap (λ (rs : List Range). nest_of [] (seen_ranges rs)) ranges in
    let settings = c.items-in-loop-share-3.ensures.list ∙ c.in_ok-settings.ensures.settings
    ∙ ap (λ (rs : List Ends). extensions rs vs) ends in
    let step = drop_at c.args.shares.now c.loop-share.share-index share c.loop-share-test.true c.share-item.is in
    made_more (share_made own words vs) c.loop-share.members _ _ _ share step
    (c.in_ok-append_entries.ensures.appended
    ∙ ap (λ (n : Named). c.loop-share.members ++ map (entry_at own words n spread) c.items-in-loop-share-3.result.now)
    name
    ∙ ap (λ (es : List (List ℤ)). c.loop-share.members
    ++ map (entry_at own words (placed_name (names_in [] (seen_ranges share.ranges)) (seen_ref share.item.name)) spread)
    es) settings)
    c.loop-share.invariant

pub returns : goal.returns
returns c = record {
  appended =
      let own = (texts c.args.names.own.now.keys) in
      let words = (texts c.args.names.words.now.keys) in
      made_all (share_made own words c.args.values.now) c.loop-share.members _
      (drop_all c.loop-share.share-index c.args.shares.now c.loop-share-test.false) c.loop-share.invariant
      ∙ ap (λ (l : List Member). c.args.members.now ++ l)
      (sym (members_made own words c.args.values.now c.args.shares.now));
}
