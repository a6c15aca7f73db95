use Rattle.std.proofs.Common.{List, [], ◌∷◌, ◌++◌, ap, ◌∙◌}
use Rattle.std.specs.Prelude.{ℤ}
use Rattle.std.proofs.lemmas.List.Concat.{flat_map_single}
use Rattle.rob_algebra.proofs.ListLemmas.{drop_at, drop_all}
use Rattle.rob_syntax.specs.declared.syntax.Statement.{Statement}
use Rattle.rob_syntax.specs.Known.{texts}
use Rattle.rob_syntax.specs.Numbered.{numbered}
use Rattle.rob_syntax.specs.Seen.{seen_statement}
use Rattle.rob_ranges.proofs.SpanLemmas.{every_at}
use Rattle.rob_settings.specs.declared.spot.Spot.{Spot}
use Rattle.rob_expand.specs.Growing.{printed}
use Rattle.rob_expand.specs.Instances.{instance}
use Rattle.rob_settings.specs.Spots.{IsThin}
use Rattle.rob_settings.proofs.SpotLemmas.{thin_along}
use Rattle.rob_expand.proofs.Walks.WalkLemmas.{made_more, made_all}
use Rattle.rob_expand.proofs.instance.append_instances.Goals as goal

pub make_statement-requires : goal.make_statement-requires
make_statement-requires c = record {
  line = c.requires.line;
  thin =
      thin_along c.args.line.now.items c.spot-item.result.kept c.items-kept.result.now c.spot-item.result.values
      c.items-values.result.now c.items-kept.ensures.list c.items-values.ensures.list
      (every_at (IsThin c.args.line.now.items) c.args.spots.now c.loop-spot.spot-index c.spot-item.result
      c.loop-spot-test.true c.spot-item.is c.requires.thin);
}

pub loop-spot-preserved : goal.loop-spot-preserved
loop-spot-preserved c =
    let g : List ℤ → Statement = λ (e : List ℤ). numbered (texts c.args.names.words.now.keys)
    (instance (texts c.args.names.own.now.keys) printed (seen_statement c.args.statement.now) e) in
    let f : Spot → Statement = λ (s : Spot). g s.values in
    let step = drop_at c.args.spots.now c.loop-spot.spot-index c.spot-item.result c.loop-spot-test.true c.spot-item.is
    in
    made_more (λ (s : Spot). f s ∷ []) c.loop-spot.list _ _ _ c.spot-item.result step
    (c.in_ok-push.ensures.appended
    ∙ ap (λ (s : Statement). c.loop-spot.list ++ s ∷ [])
    (c.in_ok-plain.ensures.made ∙ ap g c.items-values.ensures.list))
    c.loop-spot.invariant

pub returns : goal.returns
returns c =
    let f : Spot → Statement = λ (s : Spot). numbered (texts c.args.names.words.now.keys)
    (instance (texts c.args.names.own.now.keys) printed (seen_statement c.args.statement.now) s.values) in
    record {
      appended =
          made_all (λ (s : Spot). f s ∷ []) c.loop-spot.list _
          (drop_all c.loop-spot.spot-index c.args.spots.now c.loop-spot-test.false) c.loop-spot.invariant
          ∙ ap (λ (l : List Statement). c.args.list.now ++ l) (flat_map_single f c.args.spots.now);
    }
