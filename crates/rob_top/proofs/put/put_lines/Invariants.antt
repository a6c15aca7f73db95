use Rattle.std.proofs.Common.{◌≡◌, length}
use Rattle.rob_top.proofs.Ending.PutLemmas.{PutsMore}
use Rattle.rob_top.proofs.put.put_lines.Given as goal

-- the lines before the rest were taken, and no fault was counted
abbrev pub invariant-loop-rest : goal.invariant-loop-rest
invariant-loop-rest g l = record {
  puts : PutsMore (g.K.Sink.taken l.fn.out) (g.K.Sink.taken l.out) (g.K.Sink.puts l.fn.out)
      (g.K.Sink.puts l.out) l.text l.rest;
  stands : g.K.Sink.faults l.out ≡ g.K.Sink.faults l.fn.out;
}

abbrev pub decreases-loop-rest : goal.decreases-loop-rest
decreases-loop-rest g l = length l.rest
