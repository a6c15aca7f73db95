use Rattle.std.proofs.Common.{◌≡◌, take}
use Rattle.rob_meaning.specs.Names.{set_column_names}
use Rattle.rob_model.specs.View.{robust}
use Rattle.rob_report.proofs.labels.set_columns.Given as goal

abbrev pub invariant-loop-index : goal.invariant-loop-index
invariant-loop-index g l = l.list ≡ take l.index (set_column_names (robust g.N.Exact.value l.model))
