use Rattle.std.proofs.Common.{◌≡◌, ◌++◌, drop, map}
use Rattle.rob_model.specs.View.{row_of}
use Rattle.rob_report.specs.Tables.{row_names}
use Rattle.rob_report.proofs.table.row_names.Given as goal

abbrev pub invariant-loop-row : goal.invariant-loop-row
invariant-loop-row g l =
    let value = g.N.Exact.value in
    l.names ++ row_names (map (row_of value) (drop l.row-index l.rows)) ≡ row_names (map (row_of value) l.rows)
