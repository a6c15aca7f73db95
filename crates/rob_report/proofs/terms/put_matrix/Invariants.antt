use Rattle.std.proofs.Common.{◌≡◌, ◌++◌, drop, length}
use Rattle.rob_report.specs.Rows.{matrix_text}
use Rattle.rob_report.proofs.terms.put_matrix.Given as goal

abbrev pub invariant-loop-front : goal.invariant-loop-front
invariant-loop-front l =
    l.out ++ matrix_text (drop (length l.yielded) l.fronts) l.columns (drop (length l.yielded) l.matrix)
    ≡ l.fn.out ++ matrix_text l.fronts l.columns l.matrix
