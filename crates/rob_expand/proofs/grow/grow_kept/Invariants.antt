use Rattle.std.proofs.Common.{◌≡◌, drop}
use Rattle.std.specs.Prelude.{fold, ◌||◌}
use Rattle.std.specs.List.{flat_map, list_any}
use Rattle.rob_index.specs.Rules.{is_long_name}
use Rattle.rob_syntax.specs.Known.{texts}
use Rattle.rob_expand.specs.Growing.{add_name, item_names}
use Rattle.rob_settings.specs.Spots.{picks}
use Rattle.rob_expand.proofs.grow.grow_kept.Given as goal

abbrev pub invariant-loop-k : goal.invariant-loop-k
invariant-loop-k l = record {
  words :
      fold add_name (texts l.words.keys)
      (flat_map (λ x. item_names (texts l.own.keys) x l.values) (picks l.items (drop l.k-index l.kept)))
      ≡ fold add_name (texts l.fn.words.keys)
      (flat_map (λ x. item_names (texts l.own.keys) x l.values) (picks l.items l.kept));
  long :
      (l.long || list_any is_long_name
      (flat_map (λ x. item_names (texts l.own.keys) x l.values) (picks l.items (drop l.k-index l.kept))))
      ≡ list_any is_long_name
      (flat_map (λ x. item_names (texts l.own.keys) x l.values) (picks l.items l.kept));
}
