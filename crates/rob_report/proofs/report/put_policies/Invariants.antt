use Rattle.std.proofs.Common.{◌≡◌, ◌++◌, ◌≤◌, drop, map, length}
use Rattle.rob_model.specs.View.{adaptive_of, parameter_of}
use Rattle.rob_report.proofs.ColumnLemmas.{end_of}
use Rattle.rob_report.proofs.ReportLemmas.{policies_from}
use Rattle.rob_report.proofs.report.put_policies.Given as goal

abbrev pub invariant-loop-rule : goal.invariant-loop-rule
invariant-loop-rule g l =
    let text = policies_from g.N.Exact.value (map g.N.Exact.value l.plan)
    (map (parameter_of g.N.Exact.value) l.params) in
    record {
      rest : l.out ++ text l.column (drop l.rule-index l.rules) ≡ l.fn.out ++ text l.first l.rules;
      columns : end_of l.column (map (adaptive_of g.N.Exact.value) (drop l.rule-index l.rules)) ≤ length l.plan;
    }
