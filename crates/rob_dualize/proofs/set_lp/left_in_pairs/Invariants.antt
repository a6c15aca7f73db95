use Rattle.std.specs.Prelude.{◌≡◌, take, map}
use Rattle.rob_dualize.specs.SetProgram.{in_pairs, left_sides}
use Rattle.rob_dualize.proofs.set_lp.left_in_pairs.Given as goal

-- the rows so far
abbrev pub invariant-loop-row : goal.invariant-loop-row
invariant-loop-row l = l.list ≡ map in_pairs (left_sides (take l.row-index l.rows))
