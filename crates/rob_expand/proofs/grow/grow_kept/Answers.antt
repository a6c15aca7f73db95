use Rattle.std.proofs.Common.{◌+◌, drop, get_or, refl}
use Rattle.rob_syntax.specs.Known.{texts}
use Rattle.rob_settings.specs.declared.item.Item.{Item}
use Rattle.rob_expand.specs.Growing.{item_names}
use Rattle.rob_settings.specs.Spots.{picks}
use Rattle.rob_expand.proofs.Counting.ThinLemmas.{long_some, words_some}
use Rattle.rob_settings.proofs.SpotLemmas.{place_apart, places_none}
use Rattle.rob_expand.proofs.Walks.WalkLemmas.{words_all, long_all}
use Rattle.rob_expand.proofs.grow.grow_kept.Goals as goal

pub loop-k-preserved : goal.loop-k-preserved
loop-k-preserved c =
    let f = (λ (x : Item). item_names (texts c.args.own.now.keys) x c.args.values.now) in
    let step =
    place_apart c.args.items.now c.args.kept.now c.loop-k.k-index (get_or c.args.kept.now c.loop-k.k-index 0)
    c.one_at.result.now
    c.loop-k-test.true refl c.one_at.ensures.one in
    let old = picks c.args.items.now (drop c.loop-k.k-index c.args.kept.now) in
    let rest = picks c.args.items.now (drop (c.loop-k.k-index + 1) c.args.kept.now) in
    let one = c.one_at.result.now in
    record {
      words = words_some f old one rest step (texts c.loop-k.words.keys) _ c.in_ok-here.ensures.words
          c.loop-k.invariant.words;
      long = long_some f old one rest step c.loop-k.long c.in_ok-here.here _ c.in_ok-here.ensures.long
          c.either-long.ensures.either c.loop-k.invariant.long;
    }

pub returns : goal.returns
returns c =
    let f = (λ (x : Item). item_names (texts c.args.own.now.keys) x c.args.values.now) in
    let none = places_none c.args.items.now c.args.kept.now c.loop-k.k-index c.loop-k-test.false in
    record {
      words = words_all f _ _ none c.loop-k.invariant.words;
      long = long_all f c.loop-k.long _ none c.loop-k.invariant.long;
    }
