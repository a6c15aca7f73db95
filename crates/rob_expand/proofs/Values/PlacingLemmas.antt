-- A placed expression stands for what the expression stands for.
use Rattle.std.proofs.Common.{◌≡◌, ℕ, List, [], ◌∷◌, ◌++◌, map, get_or, refl, sym, ap, ◌∙◌}
use Rattle.std.specs.Prelude.{ℤ, nat_abs}
use Rattle.std.specs.Fmt.{decimal}
use Rattle.std.specs.List.{flat_map}
use Rattle.rob_index.specs.Statements.{Name, Index, Ref, Tree, TreeParts, TreeFactors}
use Rattle.rob_index.specs.Statements as stated
use Rattle.rob_index.specs.Settings.{with_value}
use Rattle.rob_index.specs.Expansion.{ref_name, index_text, summed, expand_tree, expand_parts, expand_factors}
use Rattle.rob_index.specs.Forms.{Form, value_of, values_of}
use Rattle.rob_index.specs.Fast.{setting_of, index_form, ends_of}
use Rattle.rob_index.proofs.Faults.FastLemmas.{index_is, values_are}
use Rattle.rob_expand.specs.Placing.{placed_tree, placed_parts, placed_factors}
use Rattle.rob_expand.specs.Standing.{name_at, plain_at, parts_at, factors_at}

map_same : {A B : Type 0} (f g : A → B) → ((x : A) → f x ≡ g x) → (xs : List A) → map f xs ≡ map g xs
map_same f g h [] = refl
map_same f g h (x ∷ xs) = rw (h x, map_same f g h xs) refl

module _ (words : List Name) where
  indices_are : (names : List ℕ) (vs : List ℤ) (xs : List Index)
      → flat_map (λ (f : Form). 95 ∷ decimal (nat_abs (value_of f vs))) (map (index_form names) xs)
      ≡ flat_map (index_text words (setting_of names vs)) xs
  indices_are names vs [] = refl
  indices_are names vs (x ∷ xs) = rw (index_is names vs x, indices_are names vs xs) refl

  pub name_is : (names : List ℕ) (vs : List ℤ) (r : Ref)
      → name_at words nat_abs r.name (map (index_form names) r.indices) vs ≡ ref_name words (setting_of names vs) r
  name_is names vs r = ap (λ (t : List ℕ). get_or words r.name [] ++ t) (indices_are names vs r.indices)

  mutual
    pub placed_is : (names : List ℕ) (t : Tree) (vs : List ℤ)
        → plain_at words nat_abs (placed_tree names t) vs ≡ expand_tree words t (setting_of names vs)
    placed_is names (stated.number n) vs = refl
    placed_is names (stated.ref r) vs = ap (λ (n : Name). stated.name n) (name_is names vs r)
    placed_is names (stated.sum ts) vs = ap (λ (ps : stated.Parts). stated.sum ps) (parts_are names ts vs)
    placed_is names (stated.product ts) vs = ap (λ (ps : stated.Factors). stated.product ps) (factors_are names ts vs)
    placed_is names (stated.ranged r t) vs =
        ap summed
        (map_same (λ v. plain_at words nat_abs (placed_tree (r.name ∷ names) t) (v ∷ vs))
        (λ v. expand_tree words t (with_value r (setting_of names vs) v))
        (λ v. placed_is (r.name ∷ names) t (v ∷ vs)) (values_of (ends_of names r) vs)
        ∙ ap (map (λ v. expand_tree words t (with_value r (setting_of names vs) v))) (sym (values_are names vs r)))

    parts_are : (names : List ℕ) (ts : TreeParts) (vs : List ℤ)
        → parts_at words nat_abs (placed_parts names ts) vs ≡ expand_parts words ts (setting_of names vs)
    parts_are names stated.no_parts vs = refl
    parts_are names (stated.part minus t ts) vs = rw (placed_is names t vs, parts_are names ts vs) refl

    factors_are : (names : List ℕ) (ts : TreeFactors) (vs : List ℤ)
        → factors_at words nat_abs (placed_factors names ts) vs ≡ expand_factors words ts (setting_of names vs)
    factors_are names stated.no_factors vs = refl
    factors_are names (stated.factor t ts) vs = rw (placed_is names t vs, factors_are names ts vs) refl
