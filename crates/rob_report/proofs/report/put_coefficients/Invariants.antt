use Rattle.std.proofs.Common.{◌≡◌, ◌+◌, ◌++◌, drop, map}
use Rattle.rob_model.specs.View.{parameter_of}
use Rattle.rob_report.specs.Report.{coefficients_text}
use Rattle.rob_report.proofs.report.put_coefficients.Given as goal

abbrev pub invariant-loop-k : goal.invariant-loop-k
invariant-loop-k g l =
    let text = coefficients_text (map g.N.Exact.value l.plan) (map (parameter_of g.N.Exact.value) l.params) in
    record {
      place : l.place ≡ l.column + l.k-index;
      rest : l.out ++ text l.place (drop l.k-index l.on) ≡ l.fn.out ++ text l.column l.on;
    }
