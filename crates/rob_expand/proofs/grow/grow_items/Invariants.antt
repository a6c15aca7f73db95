use Rattle.std.proofs.Common.{◌≡◌, drop}
use Rattle.std.specs.Prelude.{fold, ◌||◌}
use Rattle.std.specs.List.{flat_map, list_any}
use Rattle.rob_index.specs.Rules.{is_long_name}
use Rattle.rob_syntax.specs.Known.{texts}
use Rattle.rob_expand.specs.Growing.{add_name, item_names}
use Rattle.rob_expand.proofs.grow.grow_items.Given as goal

abbrev pub invariant-loop-item : goal.invariant-loop-item
invariant-loop-item l = record {
  words :
      fold add_name (texts l.words.keys)
      (flat_map (λ x. item_names (texts l.own.keys) x l.values) (drop l.item-index l.items))
      ≡ fold add_name (texts l.fn.words.keys) (flat_map (λ x. item_names (texts l.own.keys) x l.values) l.items);
  long :
      (l.long || list_any is_long_name
      (flat_map (λ x. item_names (texts l.own.keys) x l.values) (drop l.item-index l.items)))
      ≡ list_any is_long_name (flat_map (λ x. item_names (texts l.own.keys) x l.values) l.items);
}
