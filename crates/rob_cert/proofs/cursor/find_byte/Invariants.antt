use Rattle.std.proofs.Common.{take}
use Rattle.rob_cert.specs.Reading.{Lacks}
use Rattle.rob_cert.proofs.cursor.find_byte.Given as goal

abbrev pub invariant-loop-i : goal.invariant-loop-i
invariant-loop-i l = Lacks l.byte (take l.i l.text)
