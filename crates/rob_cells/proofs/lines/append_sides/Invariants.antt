use Rattle.std.proofs.Common.{◌≡◌, ◌++◌, map, drop}
use Rattle.rob_cells.specs.View.{cut_of}
use Rattle.rob_model.specs.View.{robust, set_line_of}
use Rattle.rob_pieces.specs.SplitModel.{side_lines}
use Rattle.rob_cells.proofs.lines.append_sides.Given as goal

-- the sides so far, and those that are left
abbrev pub invariant-loop-j : goal.invariant-loop-j
invariant-loop-j g l =
    let value = g.N.Exact.value in
    let sides = side_lines (robust value l.model) l.c in
    map (set_line_of value) l.list ++ sides (map (cut_of value) (drop l.j l.cuts))
    ≡ map (set_line_of value) l.fn.list ++ sides (map (cut_of value) l.cuts)
