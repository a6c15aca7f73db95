-- The first records of a list that grows.
use Rattle.std.proofs.Common.{◌≡◌, ℕ, zero, suc, ◌<◌, ◌≤◌, List, [], ◌∷◌, ◌++◌, map, length, take, refl, sym, ap, ◌∙◌, arith}
use Rattle.std.proofs.lemmas.List.{length-map, map-append}

module _ {A : Type 0} where
  take_nothing : (n : ℕ) → take {A = A} n [] ≡ []
  take_nothing zero = refl
  take_nothing (suc n) = refl

  take_room : (n : ℕ) (more : List A) (x : A) → length (take n more) < n
      → take n (more ++ x ∷ []) ≡ take n more ++ x ∷ []
  take_room zero more x h = absurd (omega arith)
  take_room (suc n) [] x h = ap (λ l. x ∷ l) (take_nothing n)
  take_room (suc n) (y ∷ more) x h = ap (λ l. y ∷ l) (take_room n more x (omega arith))

  take_full : (n : ℕ) (more : List A) (x : A) → n ≤ length (take n more) → take n (more ++ x ∷ []) ≡ take n more
  take_full zero more x h = refl
  take_full (suc n) [] x h = absurd (omega arith)
  take_full (suc n) (y ∷ more) x h = ap (λ l. y ∷ l) (take_full n more x (omega arith))

module _ {A B : Type 0} (f : A → B) (n : ℕ) (rows : List A) (x : A) (more : List B)
    (is : map f rows ≡ take n more) where
  pub kept_room : length rows < n → map f (rows ++ x ∷ []) ≡ take n (more ++ f x ∷ [])
  kept_room h =
      let len : length rows ≡ length (take n more) = sym (length-map rows f) ∙ ap length is in
      map-append f rows (x ∷ []) ∙ ap (λ l. l ++ f x ∷ []) is ∙ sym (take_room n more (f x) (omega arith))

  pub kept_full : n ≤ length rows → map f rows ≡ take n (more ++ f x ∷ [])
  kept_full h =
      let len : length rows ≡ length (take n more) = sym (length-map rows f) ∙ ap length is in
      is ∙ sym (take_full n more (f x) (omega arith))
