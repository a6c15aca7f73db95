use Rattle.std.proofs.Common.{◌≡◌, drop}
use Rattle.rob_replay.specs.Fields.{behind_blanks}
use Rattle.rob_replay.proofs.field.behind_blanks.Given as goal

-- the bytes so far are blanks
abbrev pub invariant-loop-i : goal.invariant-loop-i
invariant-loop-i l = behind_blanks (drop l.i l.field) ≡ behind_blanks l.field
