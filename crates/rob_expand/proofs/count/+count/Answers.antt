use Rattle.std.proofs.lemmas.Result.{err_from_is_err_and}
use Rattle.rob_index.specs.Forms.{values_of}
use Rattle.rob_expand.proofs.Counting.InmostLemmas.{counted_inside}
use Rattle.rob_expand.proofs.Counting.OverLemmas.{each_end, each_more, each_stop, over_empty, over_one, over_several, over_told}
use Rattle.rob_expand.proofs.Counting.StepLemmas.{factors_end, factors_more, factors_stop, item_behind, item_stop_front, item_stop_inner, parts_end, parts_more, parts_stop}
use Rattle.rob_settings.proofs.AnswerLemmas.{moved}
use Rattle.rob_expand.proofs.Walks.WalkLemmas.{next_none, next_some}
use Rattle.rob_expand.proofs.count.+count.Goals as goal

pub count-returns-in-Over : goal.count-returns-in-Over
count-returns-in-Over t c = record {
  counted = over_told c.args.limit c.args.values.now c.args.room c.in-Over.ends c.in-Over.inner c.args.placed.now
      c.deref.result.now c.in-Over.is c.deref.ensures c.count_over.result c.count_over.ensures.counted;
}

pub count_item-returns-in_err-begun : goal.count_item-returns-in_err-begun
count_item-returns-in_err-begun t c = record {
  left = item_stop_front c.args.limit c.args.front c.args.inner.now c.args.values.now c.args.room _
      c.in_err-begun.field-0.0 (err_from_is_err_and c.from_residual.result c.from_residual.ensures.1)
      c.in_err-begun.ensures.left;
}

pub count_item-returns-in_err-counted : goal.count_item-returns-in_err-counted
count_item-returns-in_err-counted t c = record {
  left = item_stop_inner c.args.limit c.args.front c.args.inner.now c.args.values.now c.args.room _
      c.in_err-counted.field-0.0
      (err_from_is_err_and c.from_residual-in_err-counted.result c.from_residual-in_err-counted.ensures.1)
      c.in_ok-begun.ensures.left c.in_err-counted.ensures.counted;
}

pub count_item-returns : goal.count_item-returns
count_item-returns t c = record {
  left = moved c.spend-2.result _ _ (item_behind c.args.limit c.args.front c.args.inner.now c.args.values.now
      c.args.room c.in_ok-begun.ensures.left c.in_ok-counted.ensures.counted (c.parens.ensures.parens c.args.limit))
      c.spend-2.ensures.left;
}

pub count_parts-loop-part-preserved : goal.count_parts-loop-part-preserved
count_parts-loop-part-preserved t c =
    parts_more c.loop-part.invariant c.loop-part-test.true c.part-item.is (c.lead.ensures.lead c.args.limit)
    c.in_ok-behind.ensures.left

pub count_parts-returns-in_err-behind : goal.count_parts-returns-in_err-behind
count_parts-returns-in_err-behind t c = record {
  left = parts_stop c.loop-part.invariant c.loop-part-test.true c.part-item.is (c.lead.ensures.lead c.args.limit) _
      c.in_err-behind.field-0.0 (err_from_is_err_and c.from_residual.result c.from_residual.ensures.1)
      c.in_err-behind.ensures.left;
}

pub count_parts-returns : goal.count_parts-returns
count_parts-returns t c = record { left = parts_end c.loop-part.invariant c.loop-part-test.false }

pub count_factors-loop-factor-preserved : goal.count_factors-loop-factor-preserved
count_factors-loop-factor-preserved t c =
    factors_more c.loop-factor.invariant c.loop-factor-test.true c.factor-item.is (c.star.ensures.star c.args.limit)
    c.in_ok-behind.ensures.left

pub count_factors-returns-in_err-behind : goal.count_factors-returns-in_err-behind
count_factors-returns-in_err-behind t c = record {
  left = factors_stop c.loop-factor.invariant c.loop-factor-test.true c.factor-item.is
      (c.star.ensures.star c.args.limit) _ c.in_err-behind.field-0.0
      (err_from_is_err_and c.from_residual.result c.from_residual.ensures.1) c.in_err-behind.ensures.left;
}

pub count_factors-returns : goal.count_factors-returns
count_factors-returns t c = record { left = factors_end c.loop-factor.invariant c.loop-factor-test.false }

pub count_over-returns-in-Empty : goal.count_over-returns-in-Empty
count_over-returns-in-Empty t c = record {
  counted = over_empty c.args.limit c.args.inner.now c.args.values.now (values_of c.args.ends.now c.args.values.now)
      c.args.room c.single.result c.in-Empty.is c.in_ok-many.ensures.many c.single.ensures.counted;
}

pub count_over-returns-in_ok-last-in-One : goal.count_over-returns-in_ok-last-in-One
count_over-returns-in_ok-last-in-One t c = record {
  counted = over_one c.args.limit c.args.inner.now c.args.values.now (values_of c.args.ends.now c.args.values.now)
      c.args.room c.count.result c.in-One.is c.in_ok-many.ensures.many c.in_ok-inside-in-One.ensures.values
      (counted_inside c.in_ok-last-in-One.ensures.inmost c.args.limit c.args.room c.count.result
      c.count.ensures.counted);
}

pub count_over-returns-in-Several : goal.count_over-returns-in-Several
count_over-returns-in-Several t c = record {
  counted = over_several c.args.limit c.args.inner.now c.args.values.now (values_of c.args.ends.now c.args.values.now)
      c.args.room c.count_each.result c.in-Several.is c.in_ok-many.ensures.many c.count_each.ensures.counted;
}

pub count_each-values-preserved : goal.count_each-values-preserved
count_each-values-preserved t c =
    each_more c.values.invariant
    (next_some c.in_ok-value.field-0 c.in-Some.value _ _ c.in-Some.is c.in_ok-value.ensures.next)
    c.in_ok-inside.ensures.values (c.lead.ensures.lead c.args.limit) c.in_ok-behind.ensures.left

pub count_each-returns-in_err-behind : goal.count_each-returns-in_err-behind
count_each-returns-in_err-behind t c = record {
  counted = each_stop c.values.invariant
      (next_some c.in_ok-value.field-0 c.in-Some.value _ _ c.in-Some.is c.in_ok-value.ensures.next)
      c.in_ok-inside.ensures.values (c.lead.ensures.lead c.args.limit) _
      c.in_err-behind.field-0.0
      (err_from_is_err_and c.from_residual-in_err-behind.result c.from_residual-in_err-behind.ensures.1)
      c.in_err-behind.ensures.left;
}

pub count_each-returns : goal.count_each-returns
count_each-returns t c = record {
  counted = each_end c.values.invariant
      (next_none c.in_ok-value.field-0 _ _ c.in_default.is c.in_ok-value.ensures.next);
}
