use Rattle.std.proofs.Common.{◌+◌, ◌≤◌, map, length}
use Rattle.rob_number.specs.Counts.{NeverFell}
use Rattle.rob_cert.specs.NamesView.{naming}
use Rattle.rob_cert.specs.View.{item_of}
use Rattle.rob_cert.proofs.Readers.ItemLemmas.{ItemsSoFar}
use Rattle.rob_cert.proofs.items.read_items.Given as goal

abbrev pub invariant-loop-split : goal.invariant-loop-split
invariant-loop-split g l = record {
  so : ItemsSoFar (naming l.names) g.N.Exact.limit l.at.rest.now l.at.line
      (map (item_of g.N.Exact.value) l.list) l.form l.rest l.line;
  small : l.line + length l.rest ≤ l.at.line + length l.at.rest.now;
  counted : NeverFell g.L.Ledger.ops g.L.Ledger.wides l.fn.ledger l.ledger;
}

abbrev pub decreases-loop-split : goal.decreases-loop-split
decreases-loop-split g l = length l.rest
