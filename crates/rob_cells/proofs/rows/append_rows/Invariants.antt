use Rattle.std.proofs.Common.{◌≡◌, ◌++◌, map, drop}
use Rattle.rob_model.specs.View.{robust, row_of}
use Rattle.rob_pieces.specs.SplitModel.{row_over}
use Rattle.rob_cells.proofs.rows.append_rows.Given as goal

-- the rows so far, and those that are left
abbrev pub invariant-loop-row : goal.invariant-loop-row
invariant-loop-row g l =
    let view = row_of g.N.Exact.value in
    let f = row_over (robust g.N.Exact.value l.model) l.c in
    map view l.list ++ map f (map view (drop l.row-index l.model.rows))
    ≡ map view l.fn.list ++ map f (map view l.model.rows)
