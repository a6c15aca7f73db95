use Rattle.std.proofs.Common.{List, ap, arith, map}
use Rattle.rob_meaning.specs.SetRows.{lift_count}
use Rattle.rob_model.specs.View.{set_line_of}
use Rattle.rob_model.specs.declared.model.SetLine.{SetLine as SetLineData}
use Rattle.rob_sets.proofs.Cells.ItemLemmas.{drop_over}
use Rattle.rob_sets.proofs.WholeRows.StatementCounts.{few_here, lifts_fit, lifts_left}
use Rattle.rob_sets.proofs.row.lift_count.Goals as goal

pub member_count-count-requires : goal.member_count-count-requires
member_count-count-requires g c = record {
  few = few_here c.requires.valid c.items-line-items.ensures.list c.loop-line-test.true c.line-item.is
      c.loop-line.count c.loop-line.invariant;
}

pub overflow_add-count : goal.overflow_add-count
overflow_add-count g c =
    lifts_fit c.requires.valid c.items-line-items.ensures.list c.loop-line-test.true c.line-item.is
    c.loop-line.count c.loop-line.invariant c.member_count-count.ensures.count

pub loop-line-preserved : goal.loop-line-preserved
loop-line-preserved g c =
    lifts_left c.requires.valid c.items-line-items.ensures.list c.loop-line-test.true c.line-item.is
    c.loop-line.count c.loop-line.invariant c.member_count-count.ensures.count

pub returns : goal.returns
returns g c =
    let over = drop_over c.loop-line.line-index c.items-line-items.ensures.list c.loop-line-test.false in
    record {
      count = omega (
        arith,
        c.loop-line.invariant,
        ap (λ (ys : List (SetLineData g.row.N.Denot)). lift_count (map (set_line_of g.N.Exact.value) ys)) over,
      );
    }
