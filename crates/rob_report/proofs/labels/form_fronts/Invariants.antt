use Rattle.std.proofs.Common.{◌≡◌, ◌++◌, drop, map}
use Rattle.rob_model.specs.View.{parameter_of}
use Rattle.rob_report.proofs.LabelLemmas.{front_of}
use Rattle.rob_report.specs.Rows.{fronts_of}
use Rattle.rob_report.proofs.labels.form_fronts.Given as goal

abbrev pub invariant-loop-param : goal.invariant-loop-param
invariant-loop-param g l =
    l.list ++ map (front_of g.N.Exact.value) (drop l.param-index l.params)
    ≡ fronts_of (map (parameter_of g.N.Exact.value) l.params)
