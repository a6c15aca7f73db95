use Rattle.std.proofs.Common.{◌≡◌, ◌++◌, suc}
use Rattle.std.specs.Prelude.{flat_map}
use Rattle.rob_cells.proofs.NameLemmas.{row_names_in}
use Rattle.rob_meaning.specs.Places.{tabulate}
use Rattle.rob_model.specs.View.{robust}
use Rattle.rob_cells.proofs.names.append_row_names.Given as goal

-- the names of the cells so far
abbrev pub invariant-loop-i : goal.invariant-loop-i
invariant-loop-i g l =
    l.names ≡ l.fn.names ++ flat_map (row_names_in (robust g.N.Exact.value l.model)) (tabulate l.i suc)
