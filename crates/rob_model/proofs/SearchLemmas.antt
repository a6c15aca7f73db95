-- The first set condition that fails, from that among the bounds and that among the statements.
use Rattle.std.proofs.Common.{◌≡◌, ℕ, List, map, length, ap, ◌∙◌}
use Rattle.std.specs.Prelude.{Option, Some, None}
use Rattle.rob_algebra.specs.Fraction.{Fraction}
use Rattle.rob_model.specs.GroupNames.{parameter_bound_names}
use Rattle.rob_meaning.specs.SetConditions.{bounds_from, all_stated}
use Rattle.rob_model.specs.View.{robust, parameter_of, set_line_of}
use Rattle.rob_model.specs.Within.{first_within, first_broken_within}
use Rattle.rob_model.proofs.ConditionLemmas.{append_stops, append_fails, append_goes, count_is}
use Rattle.rob_model.specs.declared.model.Model.{Model}
use Rattle.rob_model.specs.declared.model.Param.{Param}

module _ (limit : ℕ) {N : Type 0} (value : N → Fraction) (m : Model N) (s : Fraction) (p : List Fraction)
    (ps : List (Param N)) (same : ps ≡ m.params) where
  bounds_at : Option (Option ℕ)
  bounds_at = first_within limit (robust value m) s p (bounds_from 0 (map (parameter_of value) ps)) 0

  bounds_same : bounds_at ≡ first_within limit (robust value m) s p
      (bounds_from 0 (map (parameter_of value) m.params)) 0
  unfolding bounds_at
  bounds_same =
      ap (λ (xs : List (Param N)).
      first_within limit (robust value m) s p (bounds_from 0 (map (parameter_of value) xs)) 0) same

  pub search_stops : None ≡ first_within limit (robust value m) s p (bounds_from 0 (map (parameter_of value) ps)) 0
      → None ≡ first_broken_within limit (robust value m) s p
  unfolding bounds_at
  search_stops none =
      append_stops limit (robust value m) s p (bounds_from 0 (map (parameter_of value) m.params))
      (all_stated (map (set_line_of value) m.set_lines)) (none ∙ bounds_same)

  pub search_fails : (k : ℕ)
      → Some (Some k) ≡ first_within limit (robust value m) s p (bounds_from 0 (map (parameter_of value) ps)) 0
      → Some (Some k) ≡ first_broken_within limit (robust value m) s p
  unfolding bounds_at
  search_fails k broken =
      append_fails limit (robust value m) s p (bounds_from 0 (map (parameter_of value) m.params))
      (all_stated (map (set_line_of value) m.set_lines)) k (broken ∙ bounds_same)

  pub search_goes : (n : ℕ) (qs : List (Param N)) → qs ≡ m.params
      → n ≡ length (parameter_bound_names (map (parameter_of value) qs))
      → Some None ≡ first_within limit (robust value m) s p (bounds_from 0 (map (parameter_of value) ps)) 0
      → first_within limit (robust value m) s p (all_stated (map (set_line_of value) m.set_lines)) n
      ≡ first_broken_within limit (robust value m) s p
  unfolding bounds_at
  search_goes n qs also count all =
      append_goes limit (robust value m) s p (bounds_from 0 (map (parameter_of value) m.params))
      (all_stated (map (set_line_of value) m.set_lines)) n
      (count_is value n m.params
      (count ∙ ap (λ (xs : List (Param N)). length (parameter_bound_names (map (parameter_of value) xs))) also))
      (all ∙ bounds_same)
