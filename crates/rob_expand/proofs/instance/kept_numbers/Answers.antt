use Rattle.std.proofs.Common.{◌+◌, drop, get_or, refl, ℕ, List, ◌++◌, ap, sym, ◌∙◌}
use Rattle.rob_syntax.specs.Known.{texts}
use Rattle.rob_settings.specs.Spots.{picks}
use Rattle.rob_expand.proofs.Expanding.MakeLemmas.{item_made, numbers_made}
use Rattle.rob_expand.proofs.Counting.ThinLemmas.{made_some}
use Rattle.rob_settings.proofs.SpotLemmas.{place_apart, places_none}
use Rattle.rob_expand.proofs.Walks.WalkLemmas.{made_all}
use Rattle.rob_expand.proofs.instance.kept_numbers.Goals as goal

pub loop-k-preserved : goal.loop-k-preserved
loop-k-preserved c =
    let own = texts c.args.names.own.now.keys in
    let words = texts c.args.names.words.now.keys in
    let step =
    place_apart c.args.items.now c.args.kept.now c.loop-k.k-index (get_or c.args.kept.now c.loop-k.k-index 0)
    c.one_at.result.now
    c.loop-k-test.true refl c.one_at.ensures.one in
    let old = picks c.args.items.now (drop c.loop-k.k-index c.args.kept.now) in
    let rest = picks c.args.items.now (drop (c.loop-k.k-index + 1) c.args.kept.now) in
    made_some (item_made own words c.args.values.now) c.loop-k.numbers _ old c.one_at.result.now rest step
    (c.in_ok-append_items.ensures.numbers
    ∙ ap (λ (l : List ℕ). c.loop-k.numbers ++ l) (numbers_made own words c.args.values.now c.one_at.result.now))
    c.loop-k.invariant

pub returns : goal.returns
returns c =
    let own = texts c.args.names.own.now.keys in
    let words = texts c.args.names.words.now.keys in
    record {
      numbers =
          made_all (item_made own words c.args.values.now) c.loop-k.numbers _
          (places_none c.args.items.now c.args.kept.now c.loop-k.k-index c.loop-k-test.false) c.loop-k.invariant
          ∙ sym (numbers_made own words c.args.values.now (picks c.args.items.now c.args.kept.now));
    }
