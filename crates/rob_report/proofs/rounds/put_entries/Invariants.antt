use Rattle.std.proofs.Common.{◌≡◌, ◌++◌, drop, length}
use Rattle.rob_report.proofs.RoundLemmas.{entries_of}
use Rattle.rob_report.proofs.rounds.put_entries.Given as goal

abbrev pub invariant-loop-param : goal.invariant-loop-param
invariant-loop-param g l =
    let value = g.N.Exact.value in
    l.out ++ entries_of value (drop (length l.yielded) l.params) (drop (length l.yielded) l.numbers)
    ≡ l.fn.out ++ entries_of value l.params l.numbers
