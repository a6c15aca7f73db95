use Rattle.std.proofs.Common.{◌+◌, drop, sym, ◌∙◌}
use Rattle.rob_algebra.proofs.ListLemmas.{drop_at, drop_all}
use Rattle.rob_settings.specs.declared.item.Item.{Item}
use Rattle.rob_expand.specs.Judging.{item_found}
use Rattle.rob_expand.proofs.Walks.FindingLemmas.{worst_more, worst_all, worst_stop}
use Rattle.rob_judge.proofs.judging.judge_items.Goals as goal

pub loop-item-preserved : goal.loop-item-preserved
loop-item-preserved c =
    let f = λ (x : Item). item_found x c.args.values.now in
    let step = drop_at c.args.items.now c.loop-item.item-index c.item-item.result c.loop-item-test.true c.item-item.is
    in
    worst_more f c.loop-item.found c.in_ok-here.here _ _ _ c.item-item.result step c.in_ok-here.ensures.found
    c.worse-found.ensures.worse c.loop-item.invariant

pub returns-then-is_too_long : goal.returns-then-is_too_long
returns-then-is_too_long c =
    let f = λ (x : Item). item_found x c.args.values.now in
    let step = drop_at c.args.items.now c.loop-item.item-index c.item-item.result c.loop-item-test.true c.item-item.is
    in
    record {
      found =
          worst_stop f c.worse-found.result (drop (c.loop-item.item-index + 1) c.args.items.now)
          (sym c.is_too_long.ensures.is ∙ c.if-is_too_long.true)
          (worst_more f c.loop-item.found c.in_ok-here.here _ _ _ c.item-item.result step c.in_ok-here.ensures.found
          c.worse-found.ensures.worse c.loop-item.invariant);
    }

pub returns : goal.returns
returns c =
    let f = λ (x : Item). item_found x c.args.values.now in
    let none = drop_all c.loop-item.item-index c.args.items.now c.loop-item-test.false in
    record { found = worst_all f c.loop-item.found _ none c.loop-item.invariant }
