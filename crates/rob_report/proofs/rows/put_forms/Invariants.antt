use Rattle.std.proofs.Common.{◌≡◌, ◌++◌, drop}
use Rattle.rob_meaning.specs.Names.{form_names}
use Rattle.rob_model.specs.View.{robust}
use Rattle.rob_report.specs.Lines.{for_pairs}
use Rattle.rob_report.specs.Rows.{form_column_names, form_line, fronts_of, forms_text}
use Rattle.rob_report.proofs.rows.put_forms.Given as goal

abbrev pub invariant-loop-index : goal.invariant-loop-index
invariant-loop-index g l =
    let m = robust g.N.Exact.value l.model in
    l.out ++ for_pairs (form_line (fronts_of m.parameters) (form_column_names m)) (drop l.index (form_names m))
    (drop l.index l.matrices)
    ≡ l.fn.out ++ forms_text m l.matrices
