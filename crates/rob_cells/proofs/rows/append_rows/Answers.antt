use Rattle.std.proofs.Common.{◌++◌, map}
use Rattle.rob_algebra.proofs.ListLemmas.{item_inside, item_is}
use Rattle.rob_cells.proofs.ListLemmas.{mapped_all, mapped_more, past_of}
use Rattle.rob_meaning.specs.RobustModel.{Row}
use Rattle.rob_meaning.specs.WellFormed.{IsExpression}
use Rattle.rob_model.specs.View.{robust, row_of}
use Rattle.rob_pieces.specs.SplitModel.{row_over}
use Rattle.rob_cells.proofs.rows.append_rows.Goals as goal
use Rattle.rob_meaning.proofs.Lists.EachLemmas.{each_get}

pub row_over-requires-clause-left : goal.row_over-requires-clause-left
row_over-requires-clause-left g c =
    let value = g.N.Exact.value in
    (each_get (λ (r : Row). IsExpression (robust value c.args.model.now) r.left
    × IsExpression (robust value c.args.model.now) r.right) (row_of value)
    c.args.model.now.rows c.loop-row.row-index c.row-item.result
    (item_inside c.loop-row.row-index c.items-row-items.ensures.list c.loop-row-test.true)
    (item_is c.loop-row.row-index c.items-row-items.ensures.list c.row-item.is)
    c.requires.valid.well_formed.rows).0

pub row_over-requires-clause-right : goal.row_over-requires-clause-right
row_over-requires-clause-right g c =
    let value = g.N.Exact.value in
    (each_get (λ (r : Row). IsExpression (robust value c.args.model.now) r.left
    × IsExpression (robust value c.args.model.now) r.right) (row_of value)
    c.args.model.now.rows c.loop-row.row-index c.row-item.result
    (item_inside c.loop-row.row-index c.items-row-items.ensures.list c.loop-row-test.true)
    (item_is c.loop-row.row-index c.items-row-items.ensures.list c.row-item.is)
    c.requires.valid.well_formed.rows).1

pub loop-row-preserved : goal.loop-row-preserved
loop-row-preserved g c =
    let view = row_of g.N.Exact.value in
    let over = row_over (robust g.N.Exact.value c.args.model.now) c.args.c in
    mapped_more view view over c.args.model.now.rows
    (map view c.args.list.now ++ map over (map view c.args.model.now.rows))
    c.loop-row.row-index c.row-item.result c.in_ok-next.next c.loop-row.list c.push.new.self
    (item_inside c.loop-row.row-index c.items-row-items.ensures.list c.loop-row-test.true)
    (item_is c.loop-row.row-index c.items-row-items.ensures.list c.row-item.is)
    c.in_ok-next.ensures.over c.in_ok-push.ensures.appended c.loop-row.invariant

pub returns : goal.returns
returns g c =
    let view = row_of g.N.Exact.value in
    let over = row_over (robust g.N.Exact.value c.args.model.now) c.args.c in
    record {
      appended = mapped_all view view over c.args.model.now.rows
          (map view c.args.list.now ++ map over (map view c.args.model.now.rows)) c.loop-row.row-index c.loop-row.list
          (past_of c.loop-row.row-index c.items-row-items.ensures.list c.loop-row-test.false) c.loop-row.invariant;
    }
