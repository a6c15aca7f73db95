-- Names in their finest parts: those of bounds are different, and joined they are the names.
use Rattle.std.proofs.Common.{sym, ◌∙◌, ap, ap₂, refl}
use Rattle.std.proofs.lemmas.List.{map-append}
use Rattle.std.specs.Prelude.{◌≡◌, ℕ, suc, List, [], ◌∷◌, ◌++◌, length, map, flat_map, codes, Option, Some, None}
use Rattle.rob_algebra.specs.Fraction.{Fraction}
use Rattle.rob_meaning.proofs.Naming.FineNames.{joined_begins, split}
use Rattle.rob_meaning.proofs.Naming.NamedLemmas.{part, last_part, lower_is_not_upper}
use Rattle.rob_meaning.specs.Named.{AreDistinct}
use Rattle.rob_meaning.specs.Names.{Name, Parts, joined, bound_parts, by_number}
use Rattle.rob_meaning.specs.Places.{Each}
use Rattle.rob_meaning.specs.RobustModel.{SetLine}
use Rattle.rob_meaning.specs.SetConditions.{if_declared}

-- lists that are joined alike
pub flat_joined : {X : Type 0} (f g : X → List Parts)
    → ((x : X) → map joined (f x) ≡ map joined (g x)) → (xs : List X) →
    map joined (flat_map f xs) ≡ map joined (flat_map g xs)
flat_joined f g h [] = refl
flat_joined f g h (x ∷ xs) =
    map-append joined (f x) (flat_map f xs)
    ∙ ap₂ (λ (a : List Name) (b : List Name). a ++ b) (h x) (flat_joined f g h xs)
    ∙ sym (map-append joined (g x) (flat_map g xs))

pub number_joined : (f g : ℕ → SetLine → List Parts)
    → ((n : ℕ) (c : SetLine) → map joined (f n c) ≡ map joined (g n c)) →
    (n : ℕ) (cs : List SetLine) → map joined (by_number f n cs) ≡ map joined (by_number g n cs)
number_joined f g h n [] = refl
number_joined f g h n (c ∷ cs) =
    map-append joined (f n c) (by_number f (suc n) cs)
    ∙ ap₂ (λ (a : List Name) (b : List Name). a ++ b) (h n c) (number_joined f g h (suc n) cs)
    ∙ sym (map-append joined (g n c) (by_number g (suc n) cs))

pub both_joined : (a b c d : List Parts) → map joined a ≡ map joined c → map joined b ≡ map joined d →
    map joined (a ++ b) ≡ map joined (c ++ d)
both_joined a b c d e f =
    map-append joined a b ∙ ap₂ (λ (x : List Name) (y : List Name). x ++ y) e f ∙ sym (map-append joined c d)

-- the names of a parameter's bounds by their plain parts
abbrev pub fine_bounds : Name → Option Fraction → Option Fraction → List Parts
fine_bounds name lower upper =
    if_declared (λ l. split name ++ codes "lower" ∷ []) lower
    ++ if_declared (λ b. split name ++ codes "upper" ∷ []) upper

pub fine_bounds_joined : (name : Name) (lo hi : Option Fraction) →
    map joined (fine_bounds name lo hi) ≡ map joined (bound_parts name lo hi)
fine_bounds_joined name None None = refl
fine_bounds_joined name None (Some b) =
    ap (λ (x : Name). x ∷ []) (joined_begins name (codes "upper" ∷ []))
fine_bounds_joined name (Some l) None =
    ap (λ (x : Name). x ∷ []) (joined_begins name (codes "lower" ∷ []))
fine_bounds_joined name (Some l) (Some b) =
    ap₂ (λ (x : Name) (y : Name). x ∷ y ∷ []) (joined_begins name (codes "lower" ∷ []))
    (joined_begins name (codes "upper" ∷ []))

pub fine_bounds_distinct : (name : Name) (lo hi : Option Fraction) → AreDistinct (fine_bounds name lo hi)
fine_bounds_distinct name None None = tt
fine_bounds_distinct name None (Some b) = (tt, tt)
fine_bounds_distinct name (Some l) None = (tt, tt)
fine_bounds_distinct name (Some l) (Some b) = (
  (
    λ e. lower_is_not_upper
        (sym (last_part (split name) (codes "lower")) ∙ ap (part (length (split name))) e
        ∙ last_part (split name) (codes "upper")),
    tt,
  ),
  (tt, tt),
)

-- a property of both
pub each_bound : (P : Parts → Type 0) (name : Name) (lo hi : Option Fraction) → P (split name ++ codes "lower" ∷ []) →
    P (split name ++ codes "upper" ∷ []) → Each P (fine_bounds name lo hi)
each_bound P name None None l u = tt
each_bound P name None (Some b) l u = (u, tt)
each_bound P name (Some a) None l u = (l, tt)
each_bound P name (Some a) (Some b) l u = (l, (u, tt))
