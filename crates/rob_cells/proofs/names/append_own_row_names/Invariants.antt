use Rattle.std.proofs.Common.{◌≡◌, ◌++◌, map, drop}
use Rattle.rob_cells.proofs.NameLemmas.{row_name}
use Rattle.rob_model.specs.View.{row_of}
use Rattle.rob_cells.proofs.names.append_own_row_names.Given as goal

-- the names so far, and those of the rows that are left
abbrev pub invariant-loop-row : goal.invariant-loop-row
invariant-loop-row g l =
    let of = row_of g.N.Exact.value in
    l.names ++ map (row_name l.c) (map of (drop l.row-index l.rows)) ≡ l.fn.names ++ map (row_name l.c) (map of l.rows)
