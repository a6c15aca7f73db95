use Rattle.std.proofs.Common.{◌≡◌, ◌++◌, map, suc}
use Rattle.std.specs.Prelude.{flat_map}
use Rattle.rob_cells.proofs.NameLemmas.{copy_names_in}
use Rattle.rob_meaning.specs.Places.{tabulate}
use Rattle.rob_model.specs.View.{adaptive_of}
use Rattle.rob_cells.proofs.names.append_copy_names.Given as goal

-- the names of the cells so far
abbrev pub invariant-loop-i : goal.invariant-loop-i
invariant-loop-i g l =
    l.names ≡ l.fn.names ++ flat_map (copy_names_in (map (adaptive_of g.N.Exact.value) l.adaptives)) (tabulate l.i suc)
