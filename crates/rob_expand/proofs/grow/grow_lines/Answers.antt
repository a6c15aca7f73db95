use Rattle.std.proofs.Common.{List, ap, ◌∙◌}
use Rattle.std.specs.Prelude.{ℤ, fold}
use Rattle.std.specs.List.{list_any}
use Rattle.rob_algebra.proofs.ListLemmas.{drop_at, drop_all}
use Rattle.rob_index.specs.Rules.{is_long_name}
use Rattle.rob_syntax.specs.Known.{texts}
use Rattle.rob_index.specs.Statements.{Name}
use Rattle.rob_ranges.proofs.SpanLemmas.{every_at}
use Rattle.rob_settings.specs.declared.spot.Spot.{Spot}
use Rattle.rob_settings.specs.Spots.{IsThin}
use Rattle.rob_expand.specs.Growing.{add_name, line_names}
use Rattle.rob_expand.proofs.Walks.WalkLemmas.{words_more, words_all, long_more, long_all}
use Rattle.rob_settings.proofs.SpotLemmas.{thin_along}
use Rattle.rob_expand.proofs.grow.grow_lines.Goals as goal

pub grow_line-requires : goal.grow_line-requires
grow_line-requires c = record {
  thin =
      thin_along c.args.line.now.items c.spot-item.result.kept c.items.result.now c.spot-item.result.values
      c.items-in-loop-spot.result.now c.items.ensures.list c.items-in-loop-spot.ensures.list
      (every_at (IsThin c.args.line.now.items) c.args.spots.now c.loop-spot.spot-index c.spot-item.result
      c.loop-spot-test.true c.spot-item.is c.requires.thin);
}

pub loop-spot-preserved : goal.loop-spot-preserved
loop-spot-preserved c =
    let f : Spot → List Name = λ (s : Spot). line_names (texts c.args.own.now.keys) c.args.line.now s.values in
    let step = drop_at c.args.spots.now c.loop-spot.spot-index c.spot-item.result c.loop-spot-test.true
    c.spot-item.is in
    record {
      words = words_more f (texts c.loop-spot.words.keys) _ _ _ c.spot-item.result step
          (c.in_ok-here.ensures.words
          ∙ ap (λ (vs : List ℤ). fold add_name (texts c.loop-spot.words.keys)
          (line_names (texts c.args.own.now.keys) c.args.line.now vs)) c.items-in-loop-spot.ensures.list)
          c.loop-spot.invariant.words;
      long =
          long_more f c.loop-spot.long c.in_ok-here.here _ _ _ c.spot-item.result step
          (c.in_ok-here.ensures.long
          ∙ ap (λ (vs : List ℤ). list_any is_long_name (line_names (texts c.args.own.now.keys) c.args.line.now vs))
          c.items-in-loop-spot.ensures.list)
          c.either-long.ensures.either c.loop-spot.invariant.long;
    }

pub returns : goal.returns
returns c =
    let f : Spot → List Name = λ (s : Spot). line_names (texts c.args.own.now.keys) c.args.line.now s.values in
    let none = drop_all c.loop-spot.spot-index c.args.spots.now c.loop-spot-test.false in
    record {
      words = words_all f _ _ none c.loop-spot.invariant.words;
      long = long_all f c.loop-spot.long _ none c.loop-spot.invariant.long;
    }
