-- Loops that make of the items of a list those of another.
use Rattle.std.proofs.Common.{◌≡◌, ℕ, ◌+◌, ◌<◌, ◌≤◌, List, [], ◌∷◌, ◌++◌, map, length, get_or, drop, refl, ap, sym, ◌∙◌, subst, append_assoc, append-nil, arith, false}
use Rattle.std.specs.Prelude.{Option, None, zero, suc}
use Rattle.rob_meaning.specs.Expressions.{Expression, term, factor}
use Rattle.rob_model.specs.View.{Signed as SignedPart, terms_of, factors_of}
use Rattle.rob_model.proofs.PartLemmas.{drop_at, drop_all}
use Rattle.rob_rules.specs.declared.sort.Sort.{Sort}
use Rattle.rob_syntax.specs.declared.syntax.Member.{Member}
use Rattle.rob_syntax.specs.declared.syntax.Syntax.{Syntax}
use Rattle.rob_syntax.specs.declared.syntax.Summand.{Summand}
use Rattle.rob_parse.specs.Building.{FitsTree, FitsSummands, FitsOperands}
use Rattle.rob_parse.specs.Written.{expression, terms, factors}
use Rattle.rob_parse.specs.Models.{factors_taken, taken, terms_taken}
use Rattle.rob_syntax.specs.Trees.{Part, tree_of, part_of, summands_of, operands_of}
use Rattle.rob_rules.proofs.Trees.WalkLemmas.{part_is}

module _ {A B C : Type 0} (g : A → C) (f : B → C) where
  map-append : (list : List A) (y : A) → map g (list ++ y ∷ []) ≡ map g list ++ g y ∷ []
  map-append [] y = refl
  map-append (x ∷ list) y = ap (λ (l : List C). g x ∷ l) (map-append list y)

  -- one item more
  pub map_step : (list : List A) (xs : List B) (i : ℕ) (x : B) (y : A) {new : List A} → i < length xs
      → x ≡ get_or xs i x → g y ≡ f x → new ≡ list ++ y ∷ []
      → map g list ++ map f (drop i xs) ≡ map f xs → map g new ++ map f (drop (i + 1) xs) ≡ map f xs
  map_step list xs i x y {new} inside is same pushed so_far =
      ap (λ (l : List A). map g l ++ map f (drop (i + 1) xs)) pushed
      ∙ ap (λ (l : List C). l ++ map f (drop (i + 1) xs)) (map-append list y)
      ∙ append_assoc (map g list) (g y ∷ []) (map f (drop (i + 1) xs))
      ∙ ap (λ (z : C). map g list ++ z ∷ map f (drop (i + 1) xs)) same
      ∙ ap (λ (l : List B). map g list ++ map f l) (sym (drop_at xs i x inside is))
      ∙ so_far

  -- all items
  pub map_end : (list : List A) (xs : List B) (i : ℕ) → length xs ≤ i → map g list ++ map f (drop i xs) ≡ map f xs
      → map g list ≡ map f xs
  map_end list xs i all so_far =
      sym (append-nil (map g list)) ∙ ap (λ (l : List B). map g list ++ map f l) (sym (drop_all i xs all)) ∙ so_far

module _ (sorts : List (Option Sort)) (count S : ℕ) where
  -- a part of a sum as the set takes it, with its sign
  unfoldable pub signed_at : Summand → SignedPart
  signed_at x = (x.minus, taken count S (expression sorts (tree_of x.inner)))

  pub signed_same : (x : Summand) {e : Expression} → e ≡ taken count S (expression sorts (tree_of x.inner))
      → ◌≡◌ {A = SignedPart} (x.minus, e) (signed_at x)
  unfolding signed_at
  signed_same x same = ap (λ (e : Expression). (x.minus, e)) same

  pub terms_are : (xs : List Summand)
      → terms_of (map signed_at xs) ≡ terms_taken count S (terms sorts (summands_of (map part_of xs)))
  unfolding signed_at
  terms_are [] = refl
  terms_are (x ∷ xs) =
      ap (term x.minus (taken count S (expression sorts (tree_of x.inner)))) (terms_are xs)
      ∙ ap (λ (p : Part). term p.minus (taken count S (expression sorts p.inner))
      (terms_taken count S (terms sorts (summands_of (map part_of xs))))) (sym (part_is x))

  unfoldable pub factor_at : Syntax → Expression
  factor_at x = taken count S (expression sorts (tree_of x))

  pub factor_same : (x : Syntax) {e : Expression} → e ≡ taken count S (expression sorts (tree_of x)) → e ≡ factor_at x
  unfolding factor_at
  factor_same x same = same

  pub factors_are : (xs : List Syntax)
      → factors_of (map factor_at xs) ≡ factors_taken count S (factors sorts (operands_of (map tree_of xs)))
  unfolding factor_at
  factors_are [] = refl
  factors_are (x ∷ xs) = ap (factor (taken count S (expression sorts (tree_of x)))) (factors_are xs)

module _ (limit : ℕ) where
  -- the parts from a place on fit: so do the part there and those behind it
  pub summands_fit : (xs : List Summand) (i : ℕ) (x : Summand) → i < length xs → x ≡ get_or xs i x
      → FitsSummands limit (summands_of (map part_of (drop i xs)))
      → FitsTree limit (tree_of x.inner) × FitsSummands limit (summands_of (map part_of (drop (i + 1) xs)))
  summands_fit xs i x inside is fits =
      let both =
      subst (λ (l : List Summand). FitsSummands limit (summands_of (map part_of l))) (drop_at xs i x inside is) fits in
      (subst (λ (p : Part). FitsTree limit p.inner) (part_is x) both.0, both.1)

  pub operands_fit : (xs : List Syntax) (i : ℕ) (x : Syntax) → i < length xs → x ≡ get_or xs i x
      → FitsOperands limit (operands_of (map tree_of (drop i xs)))
      → FitsTree limit (tree_of x) × FitsOperands limit (operands_of (map tree_of (drop (i + 1) xs)))
  operands_fit xs i x inside is fits =
      subst (λ (l : List Syntax). FitsOperands limit (operands_of (map tree_of l))) (drop_at xs i x inside is) fits

-- ---- items by their places
pub any_default : {A : Type 0} (xs : List A) (i : ℕ) (d e : A) → i < length xs → get_or xs i d ≡ get_or xs i e
any_default [] i d e inside = absurd (omega arith)
any_default (x ∷ xs) zero d e inside = refl
any_default (x ∷ xs) (suc i) d e inside = any_default xs i d e (omega arith)

-- what stands past the end of a list of members
abbrev pub no_member : Member
no_member =
    record {
      name = 0;
      spread =
          record {
            centre = record { minus = false; number = record { numerator = 0; divisor = None } };
            deviation =
                record { numerator = 0; divisor = None };
          };
    }
