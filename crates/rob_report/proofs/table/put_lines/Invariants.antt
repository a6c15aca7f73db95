use Rattle.std.proofs.Common.{◌≡◌, ◌++◌, drop, map}
use Rattle.rob_replay.specs.View.{line_of}
use Rattle.rob_report.specs.Tables.{table_lines}
use Rattle.rob_report.proofs.table.put_lines.Given as goal

abbrev pub invariant-loop-line : goal.invariant-loop-line
invariant-loop-line g l =
    let value = g.N.Exact.value in
    l.out ++ table_lines l.adaptives l.slacks (map (line_of value) (drop l.line-index l.lines))
    ≡ l.fn.out ++ table_lines l.adaptives l.slacks (map (line_of value) l.lines)
