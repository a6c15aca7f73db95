use Rattle.std.proofs.Common.{◌≡◌, ◌++◌, drop, length}
use Rattle.rob_report.proofs.WorstLemmas.{entries_of}
use Rattle.rob_report.proofs.worst.put_entries.Given as goal

abbrev pub invariant-loop-number : goal.invariant-loop-number
invariant-loop-number g l =
    let value = g.N.Exact.value in
    l.out ++ entries_of value (drop (length l.yielded) l.numbers) (drop (length l.yielded) l.params)
    ≡ l.fn.out ++ entries_of value l.numbers l.params
