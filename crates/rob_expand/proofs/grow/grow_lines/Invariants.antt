use Rattle.std.proofs.Common.{◌≡◌, drop}
use Rattle.std.specs.Prelude.{fold, ◌||◌}
use Rattle.std.specs.List.{flat_map, list_any}
use Rattle.rob_index.specs.Rules.{is_long_name}
use Rattle.rob_syntax.specs.Known.{texts}
use Rattle.rob_settings.specs.declared.spot.Spot.{Spot}
use Rattle.rob_expand.specs.Growing.{add_name, line_names}
use Rattle.rob_expand.proofs.grow.grow_lines.Given as goal

abbrev pub invariant-loop-spot : goal.invariant-loop-spot
invariant-loop-spot l = record {
  words :
      fold add_name (texts l.words.keys)
      (flat_map (λ (s : Spot). line_names (texts l.own.keys) l.line s.values) (drop l.spot-index l.spots))
      ≡ fold add_name (texts l.fn.words.keys)
      (flat_map (λ (s : Spot). line_names (texts l.own.keys) l.line s.values) l.spots);
  long :
      (l.long || list_any is_long_name
      (flat_map (λ (s : Spot). line_names (texts l.own.keys) l.line s.values) (drop l.spot-index l.spots)))
      ≡ list_any is_long_name (flat_map (λ (s : Spot). line_names (texts l.own.keys) l.line s.values) l.spots);
}
