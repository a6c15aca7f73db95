use Rattle.std.proofs.Common.{◌≡◌, ◌++◌, drop, map}
use Rattle.rob_report.proofs.ReportLemmas.{variables_from}
use Rattle.rob_report.proofs.report.put_variables.Given as goal

abbrev pub invariant-loop-column : goal.invariant-loop-column
invariant-loop-column g l =
    let text = variables_from g.N.Exact.value (map g.N.Exact.value l.plan) in
    l.out ++ text l.column (drop l.column l.vars) ≡ l.fn.out ++ text 0 l.vars
