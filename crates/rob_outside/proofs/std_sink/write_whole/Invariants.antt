use Rattle.std.proofs.Common.{length}
use Rattle.rob_outside.proofs.WriteLemmas.{Writes}
use Rattle.rob_outside.proofs.std_sink.write_whole.Given as goal

-- a part of the piece was written and noted, and the rest is left
abbrev pub invariant-loop-rest : goal.invariant-loop-rest
invariant-loop-rest g l =
    Writes (g.W.Write.contents l.fn.writer) (g.W.Write.contents l.writer) l.fn.taken.bytes l.taken.bytes l.piece l.rest

-- how many bytes are left
abbrev pub decreases-loop-rest : goal.decreases-loop-rest
decreases-loop-rest g l = length l.rest
