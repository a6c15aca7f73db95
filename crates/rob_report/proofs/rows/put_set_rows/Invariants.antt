use Rattle.std.proofs.Common.{◌≡◌, ◌++◌, drop}
use Rattle.rob_meaning.specs.Names.{set_column_names, set_row_names}
use Rattle.rob_model.specs.View.{robust}
use Rattle.rob_report.specs.Lines.{for_pairs}
use Rattle.rob_report.specs.Rows.{set_row_line, set_rows_text}
use Rattle.rob_report.proofs.rows.put_set_rows.Given as goal

abbrev pub invariant-loop-index : goal.invariant-loop-index
invariant-loop-index g l =
    let m = robust g.N.Exact.value l.model in
    l.out ++ for_pairs (set_row_line (set_column_names m)) (drop l.index (set_row_names m)) (drop l.index l.rows)
    ≡ l.fn.out ++ set_rows_text m l.rows
