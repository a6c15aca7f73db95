use Rattle.std.proofs.Common.{◌≡◌, ◌++◌, drop}
use Rattle.std.specs.List.{flat_map}
use Rattle.rob_syntax.specs.Known.{texts}
use Rattle.rob_expand.proofs.Expanding.MakeLemmas.{item_made}
use Rattle.rob_expand.proofs.instance.append_items.Given as goal

abbrev pub invariant-loop-item : goal.invariant-loop-item
invariant-loop-item l =
    l.numbers ++ flat_map (item_made (texts l.names.own.now.keys) (texts l.names.words.now.keys) l.values)
    (drop l.item-index l.items)
    ≡ l.fn.numbers ++ flat_map (item_made (texts l.names.own.now.keys) (texts l.names.words.now.keys) l.values) l.items
