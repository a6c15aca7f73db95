use Rattle.std.proofs.Common.{get_or, refl, ◌+◌, drop, sym, ◌∙◌}
use Rattle.rob_settings.specs.declared.item.Item.{Item}
use Rattle.rob_expand.specs.Judging.{item_found}
use Rattle.rob_settings.specs.Spots.{picks}
use Rattle.rob_settings.proofs.SpotLemmas.{place_apart, places_none}
use Rattle.rob_judge.proofs.ThinLemmas.{worst_some}
use Rattle.rob_expand.proofs.Walks.FindingLemmas.{worst_all, worst_stop}
use Rattle.rob_judge.proofs.judging.judge_kept.Goals as goal

pub loop-k-preserved : goal.loop-k-preserved
loop-k-preserved c =
    let f = λ (x : Item). item_found x c.args.values.now in
    let step =
    place_apart c.args.items.now c.args.kept.now c.loop-k.k-index (get_or c.args.kept.now c.loop-k.k-index 0)
    c.one_at.result.now
    c.loop-k-test.true refl c.one_at.ensures.one in
    let old = picks c.args.items.now (drop c.loop-k.k-index c.args.kept.now) in
    let rest = picks c.args.items.now (drop (c.loop-k.k-index + 1) c.args.kept.now) in
    worst_some f c.loop-k.found c.in_ok-here.here _ old c.one_at.result.now rest step c.in_ok-here.ensures.found
    c.worse-found.ensures.worse c.loop-k.invariant

pub returns-then-is_too_long : goal.returns-then-is_too_long
returns-then-is_too_long c =
    let f = λ (x : Item). item_found x c.args.values.now in
    let step =
    place_apart c.args.items.now c.args.kept.now c.loop-k.k-index (get_or c.args.kept.now c.loop-k.k-index 0)
    c.one_at.result.now
    c.loop-k-test.true refl c.one_at.ensures.one in
    let old = picks c.args.items.now (drop c.loop-k.k-index c.args.kept.now) in
    let rest = picks c.args.items.now (drop (c.loop-k.k-index + 1) c.args.kept.now) in
    record {
      found =
          worst_stop f c.worse-found.result (picks c.args.items.now (drop (c.loop-k.k-index + 1) c.args.kept.now))
          (sym c.is_too_long.ensures.is ∙ c.if-is_too_long.true)
          (worst_some f c.loop-k.found c.in_ok-here.here _ old c.one_at.result.now rest step c.in_ok-here.ensures.found
          c.worse-found.ensures.worse c.loop-k.invariant);
    }

pub returns : goal.returns
returns c =
    let f = λ (x : Item). item_found x c.args.values.now in
    let none = places_none c.args.items.now c.args.kept.now c.loop-k.k-index c.loop-k-test.false in
    record { found = worst_all f c.loop-k.found _ none c.loop-k.invariant }
