use Rattle.std.proofs.Common.{◌≡◌, ◌++◌, map, drop}
use Rattle.rob_sweep.specs.SweepText.{sweep_text}
use Rattle.rob_sweep.specs.View.{answer_of}
use Rattle.rob_sweep.proofs.text.sweep_text.Given as goal

-- the lines so far, and those of the limits that are left
abbrev pub invariant-loop-i : goal.invariant-loop-i
invariant-loop-i g l =
    let value = g.N.Exact.value in
    l.text ++ sweep_text (map value (drop l.i l.limits)) (map (answer_of value) (drop l.i l.answers))
    ≡ sweep_text (map value l.limits) (map (answer_of value) l.answers)
