use Rattle.rob_replay.specs.View.{line_of}
use Rattle.rob_report.proofs.TableLemmas.{pieces_more}
use Rattle.rob_report.specs.Tables.{table_line}
use Rattle.rob_report.proofs.table.put_lines.Goals as goal

pub loop-line-preserved : goal.loop-line-preserved
loop-line-preserved g c =
    let line = c.line-item.result in
    pieces_more (line_of g.N.Exact.value) (table_line c.args.adaptives.now c.args.slacks.now) c.args.lines.now
    c.loop-line.line-index line line
    c.loop-line.out c.put_line.new.out _ c.loop-line-test.true c.line-item.is
    c.in_ok-put_line.ensures.appended c.loop-line.invariant
