-- Tables line by line, and the names of their values.
use Rattle.std.proofs.Common.{◌≡◌, ℕ, ◌+◌, ◌<◌, List, [], ◌∷◌, ◌++◌, map, length, get_or, drop, refl, ap, sym, ◌∙◌, append_assoc}
use Rattle.std.specs.Prelude.{flat_map}
use Rattle.rob_algebra.specs.Fraction.{Fraction}
use Rattle.rob_meaning.specs.Names.{Name}
use Rattle.rob_report.proofs.PairLemmas.{drop_here}
use Rattle.rob_report.specs.Lines.{for_pairs}
use Rattle.rob_report.specs.Tables.{named_text, named_texts}

module _ {A B C : Type 0} (g : A → B) (f : B → List C) where
  -- the pieces of one item more
  pub pieces_more : (xs : List A) (i : ℕ) (x d : A) (old new total : List C) → i < length xs → x ≡ get_or xs i d
      → new ≡ old ++ f (g x) → old ++ flat_map f (map g (drop i xs)) ≡ total
      → new ++ flat_map f (map g (drop (i + 1) xs)) ≡ total
  pieces_more xs i x d old new total h is grown before =
      ap (λ o. o ++ flat_map f (map g (drop (i + 1) xs))) grown
      ∙ append_assoc old (f (g x)) (flat_map f (map g (drop (i + 1) xs)))
      ∙ ap (λ t. old ++ t) (sym (ap (λ l. flat_map f (map g l)) (drop_here xs i x d h is)))
      ∙ before

module _ {A B C : Type 0} (g : A → B) (f : B → C) where
  -- one item more
  pub items_more : (xs : List A) (i : ℕ) (x d : A) (old new total : List C) → i < length xs → x ≡ get_or xs i d
      → new ≡ old ++ f (g x) ∷ [] → old ++ map f (map g (drop i xs)) ≡ total
      → new ++ map f (map g (drop (i + 1) xs)) ≡ total
  items_more xs i x d old new total h is grown before =
      ap (λ o. o ++ map f (map g (drop (i + 1) xs))) grown
      ∙ append_assoc old (f (g x) ∷ []) (map f (map g (drop (i + 1) xs)))
      ∙ ap (λ t. old ++ t) (sym (ap (λ l. map f (map g l)) (drop_here xs i x d h is)))
      ∙ before

-- names with the numbers that stand for these
module _ {N : Type 0} (value : N → Fraction) where
  abbrev pub texts_of : List Name → List N → List ℕ
  texts_of names xs = for_pairs (λ name x. named_text name (value x)) names xs

  pub texts_whole : (names : List Name) (xs : List N) → texts_of names xs ≡ named_texts names (map value xs)
  texts_whole [] xs = refl
  texts_whole (name ∷ names) [] = refl
  texts_whole (name ∷ names) (x ∷ xs) = ap (λ t. named_text name (value x) ++ t) (texts_whole names xs)
