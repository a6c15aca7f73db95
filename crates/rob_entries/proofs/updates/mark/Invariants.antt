-- The places so far are marked.
use Rattle.std.proofs.Common.{map}
use Rattle.rob_linear.specs.Vectors.{at}
use Rattle.rob_entries.proofs.MapLemmas.{MarkedTo}
use Rattle.rob_entries.proofs.updates.mark.Given as goal

abbrev pub invariant-loop-k : goal.invariant-loop-k
invariant-loop-k g l = MarkedTo l.fn.start l.fn.places l.k-index (at (map g.E.Entry.value l.fn.row)) l.fn.marks l.marks
