use Rattle.std.proofs.Common.{◌≡◌, ◌++◌, map, drop}
use Rattle.rob_cells.proofs.NameLemmas.{copy_name}
use Rattle.rob_model.specs.View.{adaptive_of}
use Rattle.rob_cells.proofs.names.append_cell_copy_names.Given as goal

-- the names so far, and those of the copies that are left
abbrev pub invariant-loop-adaptive : goal.invariant-loop-adaptive
invariant-loop-adaptive g l =
    let of = adaptive_of g.N.Exact.value in
    l.names ++ map (copy_name l.c) (map of (drop l.adaptive-index l.adaptives))
    ≡ l.fn.names ++ map (copy_name l.c) (map of l.adaptives)
