use Rattle.std.proofs.Common.{sym, ◌∙◌}
use Rattle.rob_expand.proofs.Expanding.ExpandLemmas.{bare_more, bare_stop, bare_all, empty_told}
use Rattle.rob_expand.proofs.expansion.are_bare.Goals as goal

pub loop-item-preserved : goal.loop-item-preserved
loop-item-preserved c =
    let settings = c.items.ensures.list ∙ c.in_ok-settings.ensures.settings in
    bare_more c.args.values.now c.args.items.now c.loop-item.item-index c.item-item.result
    c.items.result.now
    c.loop-item-test.true c.item-item.is settings
    (empty_told c.items.result.now ∙ sym c.if-not-is_empty.ensures) c.loop-item.invariant

pub returns-then-not-is_empty : goal.returns-then-not-is_empty
returns-then-not-is_empty c = record {
  bare =
      let settings = c.items.ensures.list ∙ c.in_ok-settings.ensures.settings in
      bare_stop c.args.values.now c.args.items.now c.loop-item.item-index c.item-item.result
      c.items.result.now
      c.loop-item-test.true c.item-item.is settings
      (empty_told c.items.result.now ∙ sym c.if-not-is_empty.ensures) c.loop-item.invariant;
}

pub returns : goal.returns
returns c = record {
  bare = bare_all c.args.values.now c.args.items.now c.loop-item.item-index c.loop-item-test.false
      c.loop-item.invariant;
}
