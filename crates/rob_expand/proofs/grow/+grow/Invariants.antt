use Rattle.std.proofs.Common.{◌≡◌, length, drop}
use Rattle.std.specs.Prelude.{fold, ◌||◌}
use Rattle.std.specs.List.{flat_map, list_any}
use Rattle.rob_index.specs.Forms.{values_of}
use Rattle.rob_index.specs.Rules.{is_long_name}
use Rattle.rob_syntax.specs.Known.{texts}
use Rattle.rob_expand.specs.Growing.{add_name}
use Rattle.rob_expand.specs.Placed.{placed_of}
use Rattle.rob_expand.proofs.Expanding.NameLemmas.{part_names_at, factor_names_at, value_names_at}
use Rattle.rob_expand.proofs.grow.+grow.Given as goal

abbrev pub invariant-grow_parts-loop-part : goal.invariant-grow_parts-loop-part
invariant-grow_parts-loop-part l = record {
  words :
      fold add_name (texts l.words.keys)
      (flat_map (part_names_at (texts l.own.keys) l.values) (drop l.part-index l.parts))
      ≡ fold add_name (texts l.fn.words.keys) (flat_map (part_names_at (texts l.own.keys) l.values) l.parts);
  long :
      (l.long || list_any is_long_name
      (flat_map (part_names_at (texts l.own.keys) l.values) (drop l.part-index l.parts)))
      ≡ list_any is_long_name (flat_map (part_names_at (texts l.own.keys) l.values) l.parts);
}

abbrev pub invariant-grow_factors-loop-factor : goal.invariant-grow_factors-loop-factor
invariant-grow_factors-loop-factor l = record {
  words :
      fold add_name (texts l.words.keys)
      (flat_map (factor_names_at (texts l.own.keys) l.values) (drop l.factor-index l.factors))
      ≡ fold add_name (texts l.fn.words.keys) (flat_map (factor_names_at (texts l.own.keys) l.values) l.factors);
  long :
      (l.long || list_any is_long_name
      (flat_map (factor_names_at (texts l.own.keys) l.values) (drop l.factor-index l.factors)))
      ≡ list_any is_long_name (flat_map (factor_names_at (texts l.own.keys) l.values) l.factors);
}

abbrev pub invariant-grow_over-values : goal.invariant-grow_over-values
invariant-grow_over-values l = record {
  words :
      fold add_name (texts l.words.keys)
      (flat_map (value_names_at (texts l.own.keys) (placed_of l.inner) l.values) l.run)
      ≡ fold add_name (texts l.fn.words.keys)
      (flat_map (value_names_at (texts l.own.keys) (placed_of l.inner) l.values) (values_of l.ends l.values));
  long :
      (l.long || list_any is_long_name
      (flat_map (value_names_at (texts l.own.keys) (placed_of l.inner) l.values) l.run))
      ≡ list_any is_long_name
      (flat_map (value_names_at (texts l.own.keys) (placed_of l.inner) l.values) (values_of l.ends l.values));
}

abbrev pub decreases-grow_over-values : goal.decreases-grow_over-values
decreases-grow_over-values l = length l.run
