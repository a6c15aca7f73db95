use Rattle.std.proofs.Common.{◌≡◌, ◌++◌, drop, map}
use Rattle.rob_model.specs.View.{adaptive_of}
use Rattle.rob_report.specs.Tables.{adaptive_names}
use Rattle.rob_report.proofs.table.adaptive_names.Given as goal

abbrev pub invariant-loop-adaptive : goal.invariant-loop-adaptive
invariant-loop-adaptive g l =
    let value = g.N.Exact.value in
    l.names ++ adaptive_names (map (adaptive_of value) (drop l.adaptive-index l.adaptives))
    ≡ adaptive_names (map (adaptive_of value) l.adaptives)
