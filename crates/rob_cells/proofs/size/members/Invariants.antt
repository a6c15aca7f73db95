use Rattle.std.proofs.Common.{◌≡◌, ◌+◌, map, drop}
use Rattle.rob_meaning.specs.SetRows.{lift_count}
use Rattle.rob_model.specs.View.{set_line_of}
use Rattle.rob_cells.proofs.size.members.Given as goal

-- the members so far, and those of the statements that are left
abbrev pub invariant-loop-line : goal.invariant-loop-line
invariant-loop-line g l =
    let of = set_line_of g.N.Exact.value in
    l.count + lift_count (map of (drop l.line-index l.lines)) ≡ lift_count (map of l.lines)
