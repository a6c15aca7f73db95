-- Texts made of a piece for each pair of two lists: what is written so far, with the text of the rest, is the whole.
use Rattle.std.proofs.Common.{◌≡◌, ℕ, suc, ◌+◌, ◌<◌, ◌≤◌, ◌⊎◌, inl, inr, List, [], ◌∷◌, ◌++◌, length, get_or, drop, arith, refl, ap, ap₂, sym, ◌∙◌, add-one, append_assoc, append-nil}
use Rattle.std.proofs.Math.Seq.{drop-cons}
use Rattle.std.proofs.Math.Nat.{min-eq_left, min-eq_right}
use Rattle.std.proofs.lemmas.Bool.{cases_lt}
use Rattle.std.specs.Prelude.{min}
use Rattle.rob_model.proofs.PartLemmas.{drop_all}
use Rattle.rob_report.specs.Lines.{for_pairs}

-- the items from a place on are the item there and those behind it
pub drop_here : {A : Type 0} (xs : List A) (i : ℕ) (x d : A) → i < length xs → x ≡ get_or xs i d
    → drop i xs ≡ x ∷ drop (i + 1) xs
drop_here xs i x d h e =
    drop-cons xs i d h ∙ ap (λ y. y ∷ drop (suc i) xs) (sym e) ∙ ap (λ j. x ∷ drop j xs) (sym (add-one i))

module _ {A B : Type 0} (piece : A → B → List ℕ) where
  -- one pair more
  pub pairs_more : (xs : List A) (ys : List B) (i : ℕ) (x d : A) (y e : B) (old new total : List ℕ)
      → i < length xs → i < length ys → x ≡ get_or xs i d → y ≡ get_or ys i e → new ≡ old ++ piece x y
      → old ++ for_pairs piece (drop i xs) (drop i ys) ≡ total
      → new ++ for_pairs piece (drop (i + 1) xs) (drop (i + 1) ys) ≡ total
  pairs_more xs ys i x d y e old new total h k is js grown before =
      ap (λ o. o ++ for_pairs piece (drop (i + 1) xs) (drop (i + 1) ys)) grown
      ∙ append_assoc old (piece x y) (for_pairs piece (drop (i + 1) xs) (drop (i + 1) ys))
      ∙ ap (λ t. old ++ t) (sym (ap₂ (for_pairs piece) (drop_here xs i x d h is) (drop_here ys i y e k js)))
      ∙ before

  -- nothing is left of the one list or of the other
  no_pair : (xs : List A) (ys : List B) → (xs ≡ []) ⊎ (ys ≡ []) → for_pairs piece xs ys ≡ []
  no_pair xs ys (inl e) = ap (λ zs. for_pairs piece zs ys) e
  no_pair [] ys (inr e) = refl
  no_pair (x ∷ xs) ys (inr e) = ap (for_pairs piece (x ∷ xs)) e

  -- no pair is left
  pub pairs_done : (xs : List A) (ys : List B) (i : ℕ) (old total : List ℕ) → min (length xs) (length ys) ≤ i
      → old ++ for_pairs piece (drop i xs) (drop i ys) ≡ total → old ≡ total
  pairs_done xs ys i old total h before =
      sym (append-nil old)
      ∙ ap (λ t. old ++ t) (sym (no_pair (drop i xs) (drop i ys) (elim (cases_lt (length xs) (length ys)) [
        | inl lt ↦ inl
            (drop_all i xs (omega (arith, h, min-eq_left {n = length xs} {m = length ys} (omega (arith, lt)))))
        | inr ge ↦ inr
            (drop_all i ys (omega (arith, h, min-eq_right {n = length ys} {m = length xs} (omega (arith, ge)))))
      ])))
      ∙ before
