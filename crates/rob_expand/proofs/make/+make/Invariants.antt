use Rattle.std.proofs.Common.{◌≡◌, [], ◌∷◌, ◌++◌, length, drop}
use Rattle.std.specs.List.{flat_map}
use Rattle.rob_index.specs.Forms.{values_of}
use Rattle.rob_syntax.specs.Known.{texts}
use Rattle.rob_expand.specs.Placed.{placed_of}
use Rattle.rob_expand.proofs.Expanding.MakeLemmas.{part_made, factor_made, value_made}
use Rattle.rob_expand.proofs.make.+make.Given as goal

abbrev pub invariant-make_parts-loop-part : goal.invariant-make_parts-loop-part
invariant-make_parts-loop-part l =
    l.made ++ flat_map (λ x. part_made (texts l.own.keys) (texts l.words.keys) l.values x ∷ [])
    (drop l.part-index l.parts)
    ≡ flat_map (λ x. part_made (texts l.own.keys) (texts l.words.keys) l.values x ∷ []) l.parts

abbrev pub invariant-make_factors-loop-factor : goal.invariant-make_factors-loop-factor
invariant-make_factors-loop-factor l =
    l.made ++ flat_map (λ x. factor_made (texts l.own.keys) (texts l.words.keys) l.values x ∷ [])
    (drop l.factor-index l.factors)
    ≡ flat_map (λ x. factor_made (texts l.own.keys) (texts l.words.keys) l.values x ∷ []) l.factors

abbrev pub invariant-make_over-values : goal.invariant-make_over-values
invariant-make_over-values l =
    l.made.items
    ++ flat_map (λ v. value_made (texts l.own.keys) (texts l.words.keys) l.values (placed_of l.inner) v ∷ []) l.run
    ≡ flat_map (λ v. value_made (texts l.own.keys) (texts l.words.keys) l.values (placed_of l.inner) v ∷ [])
    (values_of l.ends l.values)

abbrev pub decreases-make_over-values : goal.decreases-make_over-values
decreases-make_over-values l = length l.run
