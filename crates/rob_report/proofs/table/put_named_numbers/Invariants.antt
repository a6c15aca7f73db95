use Rattle.std.proofs.Common.{◌≡◌, ◌++◌, drop, length}
use Rattle.rob_report.proofs.TableLemmas.{texts_of}
use Rattle.rob_report.proofs.table.put_named_numbers.Given as goal

abbrev pub invariant-loop-name : goal.invariant-loop-name
invariant-loop-name g l =
    let value = g.N.Exact.value in
    l.out ++ texts_of value (drop (length l.yielded) l.names) (drop (length l.yielded) l.numbers)
    ≡ l.fn.out ++ texts_of value l.names l.numbers
