-- One thing more, or many.
use Rattle.std.proofs.Common.{◌≡◌, ℕ, ◌+◌, ◌≤◌, List, [], ◌∷◌, ◌++◌, map, length, drop, refl, sym, ap, ◌∙◌, append_assoc, append-nil}
use Rattle.std.specs.Prelude.{Option, Some, None}
use Rattle.rob_model.proofs.PartLemmas.{drop_all}
use Rattle.rob_model.specs.Within.{◌>>=◌}
use Rattle.rob_replay.specs.Gathering.{all_of, gathered}

module _ {A : Type 0} where
  behind_nothing : (o : Option (List A)) → Rattle.std.specs.Prelude.option_map (λ (ys : List A). [] ++ ys) o ≡ o
  behind_nothing None = refl
  behind_nothing (Some ys) = refl

  pub gathered_all : (xs : List (Option A)) → gathered [] xs ≡ all_of xs
  gathered_all xs = behind_nothing (all_of xs)

  pub gathered_end : (so_far : List A) → gathered so_far [] ≡ Some so_far
  gathered_end so_far = ap Some (append-nil so_far)

  one_more : (so_far : List A) (x : A) (o : Option (List A))
      → Rattle.std.specs.Prelude.option_map (λ ys. so_far ++ ys) (o >>= (λ ys. Some (x ∷ ys)))
      ≡ Rattle.std.specs.Prelude.option_map (λ ys. (so_far ++ x ∷ []) ++ ys) o
  one_more so_far x None = refl
  one_more so_far x (Some ys) = ap Some (sym (append_assoc so_far (x ∷ []) ys))

  pub gathered_more : (so_far : List A) (x : A) (xs : List (Option A))
      → gathered so_far (Some x ∷ xs) ≡ gathered (so_far ++ x ∷ []) xs
  gathered_more so_far x xs = one_more so_far x (all_of xs)

  pub gathered_next : (so_far next : List A) (o : Option A) (xs : List (Option A))
      → gathered so_far (o ∷ []) ≡ Some next
      → gathered so_far (o ∷ xs) ≡ gathered next xs
  gathered_next so_far next None xs h = cc
  gathered_next so_far next (Some x) xs h =
      let e : so_far ++ x ∷ [] ≡ next = cc in
      gathered_more so_far x xs ∙ ap (λ l. gathered l xs) e

  pub gathered_stops : (so_far : List A) (o : Option A) (xs : List (Option A)) → gathered so_far (o ∷ []) ≡ None
      → gathered so_far (o ∷ xs) ≡ None
  gathered_stops so_far None xs h = refl
  gathered_stops so_far (Some x) xs h = cc

  pub gathered_append : (so_far next : List A) (xs ys : List (Option A)) → gathered so_far xs ≡ Some next
      → gathered so_far (xs ++ ys) ≡ gathered next ys
  gathered_append so_far next [] ys h =
      let e : Some so_far ≡ Some next = sym (gathered_end so_far) ∙ h in
      let d : so_far ≡ next = cc in
      ap (λ l. gathered l ys) d
  gathered_append so_far next (None ∷ xs) ys h = cc
  gathered_append so_far next (Some x ∷ xs) ys h =
      gathered_more so_far x (xs ++ ys)
      ∙ gathered_append (so_far ++ x ∷ []) next xs ys (sym (gathered_more so_far x xs) ∙ h)

  pub gathered_append_stops : (so_far : List A) (xs ys : List (Option A)) → gathered so_far xs ≡ None
      → gathered so_far (xs ++ ys) ≡ None
  gathered_append_stops so_far [] ys h = cc (gathered_end so_far)
  gathered_append_stops so_far (None ∷ xs) ys h = refl
  gathered_append_stops so_far (Some x ∷ xs) ys h =
      gathered_more so_far x (xs ++ ys)
      ∙ gathered_append_stops (so_far ++ x ∷ []) xs ys (sym (gathered_more so_far x xs) ∙ h)

-- ---- behind the items before a place
module _ {A B : Type 0} (f : A → Option B) (xs : List A) (i : ℕ) where
  pub left_past : (so_far : List B) (o : Option (List B)) → length xs ≤ i
      → gathered so_far (map f (drop i xs)) ≡ o → o ≡ Some so_far
  left_past so_far o h e =
      sym e ∙ ap (λ l. gathered so_far (map f l)) (drop_all i xs h) ∙ gathered_end so_far

  module _ (x : A) (split : drop i xs ≡ x ∷ drop (i + 1) xs) where
    pub left_more : (so_far : List B) (y : B) → f x ≡ Some y
        → gathered so_far (map f (drop i xs)) ≡ gathered (so_far ++ y ∷ []) (map f (drop (i + 1) xs))
    left_more so_far y e =
        ap (λ l. gathered so_far (map f l)) split
        ∙ ap (λ o. gathered so_far (o ∷ map f (drop (i + 1) xs))) e
        ∙ gathered_more so_far y (map f (drop (i + 1) xs))

    pub left_next : (so_far next : List B) → gathered so_far (f x ∷ []) ≡ Some next
        → gathered so_far (map f (drop i xs)) ≡ gathered next (map f (drop (i + 1) xs))
    left_next so_far next e =
        ap (λ l. gathered so_far (map f l)) split ∙ gathered_next so_far next (f x) (map f (drop (i + 1) xs)) e

    pub left_stops : (so_far : List B) → f x ≡ None → gathered so_far (map f (drop i xs)) ≡ None
    left_stops so_far e =
        ap (λ l. gathered so_far (map f l)) split ∙ ap (λ o. gathered so_far (o ∷ map f (drop (i + 1) xs))) e

    pub left_ends : (so_far : List B) → gathered so_far (f x ∷ []) ≡ None → gathered so_far (map f (drop i xs)) ≡ None
    left_ends so_far e =
        ap (λ l. gathered so_far (map f l)) split ∙ gathered_stops so_far (f x) (map f (drop (i + 1) xs)) e
