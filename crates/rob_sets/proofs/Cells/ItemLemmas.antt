-- What is left of a list itself at the item that a loop over `items()` of it has come to.
use Rattle.std.specs.Prelude.{◌≡◌, ℕ, ◌+◌, ◌≤◌, ◌<◌, List, [], ◌∷◌, length, drop}
use Rattle.std.proofs.Common.{subst, get_or}
use Rattle.rob_model.proofs.PartLemmas.{drop_at, drop_all}

module _ {A : Type 0} (i : ℕ) {items xs : List A} (same : items ≡ xs) where
  pub drop_item : {x : A} → i < length items → x ≡ get_or items i x → drop i xs ≡ x ∷ drop (i + 1) xs
  drop_item {x} inside is = subst (λ (ys : List A). drop i ys ≡ x ∷ drop (i + 1) ys) same (drop_at items i x inside is)

  pub drop_over : length items ≤ i → drop i xs ≡ []
  drop_over over = subst (λ (ys : List A). drop i ys ≡ []) same (drop_all i items over)
