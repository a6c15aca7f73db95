use Rattle.std.proofs.Common.{◌++◌, map}
use Rattle.rob_algebra.proofs.ListLemmas.{item_inside, item_is}
use Rattle.rob_cells.proofs.ListLemmas.{mapped_all, mapped_more, past_of}
use Rattle.rob_meaning.specs.WellFormed.{IsSetLine}
use Rattle.rob_model.specs.View.{robust, set_line_of}
use Rattle.rob_pieces.specs.SplitModel.{line_over}
use Rattle.rob_cells.proofs.lines.append_lines.Goals as goal
use Rattle.rob_meaning.proofs.Lists.EachLemmas.{each_get}

pub line_over-requires-clause-inside : goal.line_over-requires-clause-inside
line_over-requires-clause-inside g c =
    let value = g.N.Exact.value in
    each_get (IsSetLine (robust value c.args.model.now)) (set_line_of value)
    c.args.model.now.set_lines c.loop-line.line-index
    c.line-item.result (item_inside c.loop-line.line-index c.items-line-items.ensures.list c.loop-line-test.true)
    (item_is c.loop-line.line-index c.items-line-items.ensures.list c.line-item.is)
    c.requires.valid.well_formed.set_lines

pub loop-line-preserved : goal.loop-line-preserved
loop-line-preserved g c =
    let view = set_line_of g.N.Exact.value in
    let over = line_over (robust g.N.Exact.value c.args.model.now) c.args.c in
    mapped_more view view over c.args.model.now.set_lines
    (map view c.args.list.now ++ map over (map view c.args.model.now.set_lines))
    c.loop-line.line-index c.line-item.result c.in_ok-next.next c.loop-line.list c.push.new.self
    (item_inside c.loop-line.line-index c.items-line-items.ensures.list c.loop-line-test.true)
    (item_is c.loop-line.line-index c.items-line-items.ensures.list c.line-item.is)
    c.in_ok-next.ensures.over c.in_ok-push.ensures.appended c.loop-line.invariant

pub returns : goal.returns
returns g c =
    let view = set_line_of g.N.Exact.value in
    let over = line_over (robust g.N.Exact.value c.args.model.now) c.args.c in
    record {
      appended = mapped_all view view over c.args.model.now.set_lines
          (map view c.args.list.now ++ map over (map view c.args.model.now.set_lines))
          c.loop-line.line-index c.loop-line.list
          (past_of c.loop-line.line-index c.items-line-items.ensures.list c.loop-line-test.false) c.loop-line.invariant;
    }
