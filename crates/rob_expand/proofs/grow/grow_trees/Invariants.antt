use Rattle.std.proofs.Common.{◌≡◌, drop}
use Rattle.std.specs.Prelude.{fold, ◌||◌}
use Rattle.std.specs.List.{flat_map, list_any}
use Rattle.rob_index.specs.Rules.{is_long_name}
use Rattle.rob_syntax.specs.Known.{texts}
use Rattle.rob_expand.specs.Growing.{add_name}
use Rattle.rob_expand.proofs.Expanding.NameLemmas.{factor_names_at}
use Rattle.rob_expand.proofs.grow.grow_trees.Given as goal

abbrev pub invariant-loop-tree : goal.invariant-loop-tree
invariant-loop-tree l = record {
  words :
      fold add_name (texts l.words.keys)
      (flat_map (factor_names_at (texts l.own.keys) l.values) (drop l.tree-index l.trees))
      ≡ fold add_name (texts l.fn.words.keys) (flat_map (factor_names_at (texts l.own.keys) l.values) l.trees);
  long :
      (l.long || list_any is_long_name
      (flat_map (factor_names_at (texts l.own.keys) l.values) (drop l.tree-index l.trees)))
      ≡ list_any is_long_name (flat_map (factor_names_at (texts l.own.keys) l.values) l.trees);
}
