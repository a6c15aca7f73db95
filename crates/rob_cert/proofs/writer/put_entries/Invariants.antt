use Rattle.std.proofs.Common.{◌≡◌, ◌+◌, ◌++◌, drop}
use Rattle.rob_cert.proofs.Writing.WriterLemmas.{entries_text}
use Rattle.rob_cert.specs.NamesView.{naming}
use Rattle.rob_cert.proofs.writer.put_entries.Given as goal

abbrev pub invariant-loop-number : goal.invariant-loop-number
invariant-loop-number g l =
    let text = entries_text (naming l.names) g.N.Exact.value l.vector in
    record {
      place : l.place ≡ l.first + l.number-index;
      rest : l.out ++ text l.place (drop l.number-index l.numbers) ≡ l.fn.out ++ text l.first l.numbers;
    }
