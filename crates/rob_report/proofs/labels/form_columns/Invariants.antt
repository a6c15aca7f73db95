use Rattle.std.proofs.Common.{◌≡◌, ◌∷◌, take}
use Rattle.std.specs.Prelude.{codes}
use Rattle.rob_meaning.specs.Names.{column_names}
use Rattle.rob_model.specs.View.{robust}
use Rattle.rob_report.proofs.labels.form_columns.Given as goal

abbrev pub invariant-loop-index : goal.invariant-loop-index
invariant-loop-index g l = l.list ≡ codes "1" ∷ take l.index (column_names (robust g.N.Exact.value l.model))
