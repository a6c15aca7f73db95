use Rattle.std.specs.Prelude.{◌≡◌, ◌+◌, map, drop}
use Rattle.rob_meaning.specs.SetRows.{lift_count}
use Rattle.rob_model.specs.View.{set_line_of}
use Rattle.rob_sets.proofs.row.lift_count.Given as goal

-- the members so far, with those of the statements that are left, are all
abbrev pub invariant-loop-line : goal.invariant-loop-line
invariant-loop-line g l = l.count + lift_count (map (set_line_of g.N.Exact.value) (drop l.line-index l.model.set_lines))
    ≡ lift_count (map (set_line_of g.N.Exact.value) l.model.set_lines)
