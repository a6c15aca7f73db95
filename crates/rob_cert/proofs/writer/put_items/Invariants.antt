use Rattle.std.proofs.Common.{◌≡◌, ◌++◌, drop}
use Rattle.rob_cert.proofs.Writing.WriterLemmas.{items_text}
use Rattle.rob_cert.specs.NamesView.{naming}
use Rattle.rob_cert.specs.View.{item_of}
use Rattle.rob_cert.proofs.writer.put_items.Given as goal

abbrev pub invariant-loop-item : goal.invariant-loop-item
invariant-loop-item g l =
    let text = items_text (naming l.names) (item_of g.N.Exact.value) in
    l.out ++ text l.item-index (drop l.item-index l.list) ≡ l.fn.out ++ text 0 l.list
