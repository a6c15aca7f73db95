use Rattle.std.proofs.Common.{◌≡◌, ◌++◌, map, drop}
use Rattle.rob_cells.proofs.NameLemmas.{bound_row_names}
use Rattle.rob_model.specs.View.{adaptive_of}
use Rattle.rob_cells.proofs.names.append_bound_names.Given as goal

-- the names so far, and those of the adaptive variables that are left
abbrev pub invariant-loop-adaptive : goal.invariant-loop-adaptive
invariant-loop-adaptive g l =
    let of = adaptive_of g.N.Exact.value in
    l.names ++ bound_row_names l.c (map of (drop l.adaptive-index l.adaptives))
    ≡ l.fn.names ++ bound_row_names l.c (map of l.adaptives)
