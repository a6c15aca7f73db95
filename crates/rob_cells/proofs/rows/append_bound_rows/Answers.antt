use Rattle.std.proofs.Common.{◌+◌, List, map, ap, refl, arith, length}
use Rattle.rob_algebra.proofs.ListLemmas.{item_inside, item_is}
use Rattle.rob_cells.proofs.CellLemmas.{bounds_more}
use Rattle.rob_cells.proofs.ListLemmas.{appended_all, past_of}
use Rattle.rob_model.proofs.GroupCounts.{few_adaptives}
use Rattle.rob_model.specs.View.{adaptive_of, robust, row_of}
use Rattle.rob_model.specs.declared.model.Adaptive.{Adaptive}
use Rattle.rob_pieces.specs.SplitModel.{bound_rows}
use Rattle.rob_cells.proofs.rows.append_bound_rows.Goals as goal

pub overflow_add-k : goal.overflow_add-k
overflow_add-k g c =
    omega (
      arith,
      few_adaptives c.requires.valid c.items-adaptive-items.ensures.list,
      ap length c.items-adaptive-items.ensures.list,
      c.loop-adaptive.invariant.number,
      item_inside c.loop-adaptive.adaptive-index c.items-adaptive-items.ensures.list c.loop-adaptive-test.true,
    )

pub loop-adaptive-preserved : goal.loop-adaptive-preserved
loop-adaptive-preserved g c =
    let value = g.N.Exact.value in
    let m = robust value c.args.model.now in
    record {
      number = ap (λ k. k + 1) c.loop-adaptive.invariant.number;
      made = bounds_more value m c.args.c c.args.model.now.adaptives _ c.loop-adaptive.k
          c.loop-adaptive.adaptive-index c.adaptive-item.result
          (map (row_of value) c.loop-adaptive.list) (map (row_of value) c.append_bound.new.list)
          (map (row_of value) c.append_bound-in-loop-adaptive.new.list)
          (item_inside c.loop-adaptive.adaptive-index c.items-adaptive-items.ensures.list c.loop-adaptive-test.true)
          (item_is c.loop-adaptive.adaptive-index c.items-adaptive-items.ensures.list c.adaptive-item.is)
          (c.in_ok-append_bound.ensures.appended m c.loop-adaptive.k c.rule_in-rule.ensures.number)
          (c.in_ok-append_bound-2.ensures.appended m c.loop-adaptive.k c.rule_in-rule.ensures.number)
          c.loop-adaptive.invariant.made;
    }

pub returns : goal.returns
returns g c =
    let value = g.N.Exact.value in
    record {
      appended = appended_all (λ (ys : List (Adaptive g.row.N.Denot)).
          bound_rows (robust value c.args.model.now) c.args.c c.loop-adaptive.k (map (adaptive_of value) ys))
          c.args.model.now.adaptives (map (row_of value) c.loop-adaptive.list) c.loop-adaptive.adaptive-index refl
          (past_of c.loop-adaptive.adaptive-index c.items-adaptive-items.ensures.list c.loop-adaptive-test.false)
          c.loop-adaptive.invariant.made;
    }
