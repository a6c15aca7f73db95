use Rattle.std.proofs.Common.{◌+◌, ◌≤◌, map, length}
use Rattle.rob_number.specs.Counts.{NeverFell}
use Rattle.rob_cert.specs.NamesView.{naming}
use Rattle.rob_cert.proofs.Readers.SectionLemmas.{EntriesSoFar}
use Rattle.rob_cert.proofs.entries.read_entries.Given as goal

abbrev pub invariant-loop-split : goal.invariant-loop-split
invariant-loop-split g l = record {
  so : EntriesSoFar (naming l.names) g.N.Exact.limit l.vector l.at.rest.now l.at.line l.count
      (map g.N.Exact.value l.numbers.items) l.least l.rest l.line;
  small : l.line + length l.rest ≤ l.at.line + length l.at.rest.now;
  counted : NeverFell g.L.Ledger.ops g.L.Ledger.wides l.fn.ledger l.ledger;
}

abbrev pub decreases-loop-split : goal.decreases-loop-split
decreases-loop-split g l = length l.rest
