use Rattle.std.proofs.Common.{◌≡◌, ◌++◌, map, drop}
use Rattle.rob_model.specs.View.{robust, set_line_of}
use Rattle.rob_pieces.specs.SplitModel.{line_over}
use Rattle.rob_cells.proofs.lines.append_lines.Given as goal

-- the statements so far, and those that are left
abbrev pub invariant-loop-line : goal.invariant-loop-line
invariant-loop-line g l =
    let view = set_line_of g.N.Exact.value in
    let f = line_over (robust g.N.Exact.value l.model) l.c in
    map view l.list ++ map f (map view (drop l.line-index l.model.set_lines))
    ≡ map view l.fn.list ++ map f (map view l.model.set_lines)
