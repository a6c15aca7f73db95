use Rattle.std.proofs.Common.{◌≡◌, ◌≤◌, drop}
use Rattle.rob_expand.specs.Lines.{items_left}
use Rattle.rob_expand.proofs.line.spend_items.Given as goal

abbrev pub invariant-loop-item : goal.invariant-loop-item
invariant-loop-item l = record {
  left : items_left l.first (drop l.item-index l.items) l.values l.left ≡ items_left l.begins l.items l.values l.room;
  within : l.left ≤ l.room;
}
