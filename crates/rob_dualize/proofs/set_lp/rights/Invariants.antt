use Rattle.std.specs.Prelude.{◌≡◌, take}
use Rattle.rob_dualize.specs.SetProgram.{right_sides}
use Rattle.rob_dualize.proofs.set_lp.rights.Given as goal

-- the rows so far
abbrev pub invariant-loop-row : goal.invariant-loop-row
invariant-loop-row l = l.list ≡ right_sides (take l.row-index l.rows)
