use Rattle.std.proofs.Common.{◌≡◌, ◌++◌, map, drop}
use Rattle.rob_model.specs.View.{set_line_of}
use Rattle.rob_reach.specs.Sweeps.{limit_at}
use Rattle.rob_sweep.proofs.budget.limited.Given as goal

-- the statements so far, and those that are left, with the budget's number counted from the next one
abbrev pub invariant-loop-line : goal.invariant-loop-line
invariant-loop-line g l =
    let view = set_line_of g.N.Exact.value in
    map view l.list ++ limit_at l.left (g.N.Exact.value l.limit) (map view (drop l.line-index l.lines))
    ≡ limit_at l.n (g.N.Exact.value l.limit) (map view l.lines)
