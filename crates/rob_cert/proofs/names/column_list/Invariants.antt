use Rattle.std.proofs.Common.{◌≡◌, take}
use Rattle.rob_meaning.specs.Names.{column_names}
use Rattle.rob_model.specs.View.{robust}
use Rattle.rob_cert.proofs.names.column_list.Given as goal

abbrev pub invariant-loop-index : goal.invariant-loop-index
invariant-loop-index g l = l.list ≡ take l.index (column_names (robust g.N.Exact.value l.model))
