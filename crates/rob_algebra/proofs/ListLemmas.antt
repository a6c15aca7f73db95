-- What is left of a list from a place on, its items, lists that are mapped twice, and what is true of each item of two
-- lists.
use Rattle.std.proofs.Common.{◌≡◌, ℕ, ◌+◌, ◌<◌, ◌≤◌, List, [], ◌∷◌, ◌++◌, length, map, drop, get_or, refl, sym, ap, ◌∙◌, subst, arith, length-append}
use Rattle.std.proofs.lemmas.List.{at_drop_more, length-map}
pub use Rattle.std.proofs.lemmas.List.{drop_all}
use Rattle.rob_algebra.specs.Items.{Each}

-- the items from a place on are the item there and those behind it
pub drop_at : {A : Type 0} (xs : List A) (i : ℕ) (x : A) → i < length xs → x ≡ get_or xs i x
    → drop i xs ≡ x ∷ drop (i + 1) xs
drop_at {A} xs i x inside is =
    at_drop_more (λ (l : List A). l) xs i x inside ∙ ap (λ (y : A). y ∷ drop (i + 1) xs) (sym is)

-- an item of a list is one of the list that is the same
module _ {A : Type 0} (i : ℕ) {items xs : List A} (same : items ≡ xs) where
  pub item_inside : i < length items → i < length xs
  item_inside inside = subst (λ (ys : List A). i < length ys) same inside

  pub item_is : {x : A} → x ≡ get_or items i x → x ≡ get_or xs i x
  item_is {x} is = subst (λ (ys : List A). x ≡ get_or ys i x) same is

pub map_map : {A B C : Type 0} (g : B → C) (f : A → B) (xs : List A) → map g (map f xs) ≡ map (λ x. g (f x)) xs
map_map g f [] = refl
map_map g f (x ∷ xs) = ap (λ ys. g (f x) ∷ ys) (map_map g f xs)

-- a list that is mapped to what another one is mapped to, and more behind it, is no shorter
pub long_enough : {A B : Type 0} (view : A → B) (old now : List A) (more : List B)
    → map view now ≡ map view old ++ more → length old ≤ length now
long_enough view old now more same =
    omega (arith, ap length same, length-map now view, length-map old view, length-append (map view old) more)

-- what is true of each item of two lists is true of each of the one behind the other
pub each_append : {A : Type 0} (P : A → Type 0) (xs ys : List A) → Each P xs → Each P ys → Each P (xs ++ ys)
each_append P [] ys h k = k
each_append P (x ∷ xs) ys h k = (h.0, each_append P xs ys h.1 k)
