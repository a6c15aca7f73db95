-- Loops that append what is made of each item of a list, one after another.
use Rattle.std.proofs.Common.{◌≡◌, ℕ, ◌+◌, ◌<◌, ◌≤◌, List, [], ◌∷◌, ◌++◌, map, length, get_or, drop, ap, sym, ◌∙◌, subst, append_assoc, append-nil}
use Rattle.std.proofs.lemmas.List.{map-append}
use Rattle.rob_model.proofs.PartLemmas.{drop_at, drop_all}

module _ {A : Type 0} where
  -- what stands behind a list with one item more
  pub pushed_append : {B : Type 0} (view : A → B) (done next : List A) (y : A) (rest : List B) → next ≡ done ++ y ∷ []
      → map view next ++ rest ≡ map view done ++ view y ∷ rest
  pushed_append view done next y rest pushed =
      ap (λ xs. map view xs ++ rest) pushed
      ∙ ap (λ xs. xs ++ rest) (map-append view done (y ∷ []))
      ∙ append_assoc (map view done) (view y ∷ []) rest

module _ {X Y B C : Type 0} (view : Y → B) (of : X → C) (f : C → B) (xs : List X) (all : List B) where
  -- one item more
  pub mapped_more : (i : ℕ) (x : X) (y : Y) (done next : List Y) → i < length xs → x ≡ get_or xs i x
      → view y ≡ f (of x) → next ≡ done ++ y ∷ []
      → map view done ++ map f (map of (drop i xs)) ≡ all → map view next ++ map f (map of (drop (i + 1) xs)) ≡ all
  mapped_more i x y done next h e made pushed so_far =
      pushed_append view done next y (map f (map of (drop (i + 1) xs))) pushed
      ∙ ap (λ b. map view done ++ b ∷ map f (map of (drop (i + 1) xs))) made
      ∙ ap (λ l. map view done ++ map f (map of l)) (sym (drop_at xs i x h e))
      ∙ so_far

  -- no item is left
  pub mapped_all : (i : ℕ) (done : List Y) → length xs ≤ i
      → map view done ++ map f (map of (drop i xs)) ≡ all → map view done ≡ all
  mapped_all i done h so_far =
      sym (append-nil (map view done))
      ∙ ap (λ l. map view done ++ map f (map of l)) (sym (drop_all i xs h))
      ∙ so_far

-- a list, and behind it what stands for the items of another that are left
module _ {X B : Type 0} (rest : List X → List B) (xs : List X) (done : List B) (i : ℕ) {all : List B} where
  -- one item more
  pub appended_more : (made : X → B) → ((x : X) (ys : List X) → rest (x ∷ ys) ≡ made x ∷ rest ys)
      → {x : X} {y : B} {next : List B} → i < length xs → x ≡ get_or xs i x → y ≡ made x → next ≡ done ++ y ∷ []
      → done ++ rest (drop i xs) ≡ all → next ++ rest (drop (i + 1) xs) ≡ all
  appended_more made first {x} {y} {next} h e same pushed so_far =
      ap (λ l. l ++ rest (drop (i + 1) xs)) pushed
      ∙ append_assoc done (y ∷ []) (rest (drop (i + 1) xs))
      ∙ ap (λ b. done ++ b ∷ rest (drop (i + 1) xs)) same
      ∙ ap (λ l. done ++ l) (sym (ap rest (drop_at xs i x h e) ∙ first x (drop (i + 1) xs)))
      ∙ so_far

  -- no item is left
  pub appended_all : rest [] ≡ [] → length xs ≤ i → done ++ rest (drop i xs) ≡ all → done ≡ all
  appended_all none h so_far =
      sym (append-nil done) ∙ ap (λ l. done ++ l) (sym (ap rest (drop_all i xs h) ∙ none)) ∙ so_far

-- past the end of the same list
pub past_of : {X : Type 0} {xs ys : List X} → (i : ℕ) → ys ≡ xs → length ys ≤ i → length xs ≤ i
past_of {X} i same h = subst (λ (l : List X). length l ≤ i) same h
