-- Loops that make the items of the first places, one after another.
use Rattle.std.proofs.Common.{◌≡◌, ℕ, ◌+◌, List, [], ◌∷◌, ◌++◌, map, ap, ◌∙◌, append_assoc}
use Rattle.std.proofs.lemmas.List.{map-append}
use Rattle.rob_meaning.specs.Places.{tabulate}
use Rattle.rob_meaning.proofs.Lists.TabulateLemmas.{tabulate_next}

module _ {A B : Type 0} (g : A → B) (f : ℕ → B) where
  -- one item more behind those that were there
  pub more_behind : (front : List B) (list : List A) (y : A) (k : ℕ) {new : List A} → new ≡ list ++ y ∷ [] → g y ≡ f k
      → map g list ≡ front ++ tabulate k f → map g new ≡ front ++ tabulate (k + 1) f
  more_behind front list y k {new} pushed same so_far =
      ap (λ (l : List A). map g l) pushed
      ∙ map-append g list (y ∷ [])
      ∙ ap (λ (l : List B). l ++ g y ∷ []) so_far
      ∙ append_assoc front (tabulate k f) (g y ∷ [])
      ∙ ap (λ (z : B). front ++ (tabulate k f ++ z ∷ [])) same
      ∙ ap (λ (l : List B). front ++ l) (tabulate_next f k)

  -- one item more
  pub more : (list : List A) (y : A) (k : ℕ) {new : List A} → new ≡ list ++ y ∷ [] → g y ≡ f k
      → map g list ≡ tabulate k f → map g new ≡ tabulate (k + 1) f
  more list y k {new} pushed same so_far = more_behind [] list y k pushed same so_far
