use Rattle.std.proofs.Common.{map}
use Rattle.rob_cert.specs.Entries.{IsZeroVector}
use Rattle.rob_cert.proofs.entries.zeros.Given as goal

abbrev pub invariant-loop-k : goal.invariant-loop-k
invariant-loop-k g l = IsZeroVector l._k (map g.N.Exact.value l.numbers.items)
