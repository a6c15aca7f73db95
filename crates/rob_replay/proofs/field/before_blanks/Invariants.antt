use Rattle.std.proofs.Common.{◌≡◌, ◌≤◌, take, length}
use Rattle.rob_replay.specs.Fields.{before_blanks}
use Rattle.rob_replay.proofs.field.before_blanks.Given as goal

-- the bytes from the end on are blanks
abbrev pub invariant-loop-end : goal.invariant-loop-end
invariant-loop-end l = record {
  rest : before_blanks (take l.end l.field) ≡ before_blanks l.field;
  within : l.end ≤ length l.field;
}

abbrev pub decreases-loop-end : goal.decreases-loop-end
decreases-loop-end l = l.end
