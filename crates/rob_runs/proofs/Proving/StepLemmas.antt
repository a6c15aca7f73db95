-- Covers and items of a run, made one by one.
use Rattle.std.proofs.Common.{◌≡◌, ℕ, zero, suc, ◌<◌, List, [], ◌∷◌, ◌++◌, length, refl, sym, ap, ◌∙◌, Bool, true, false}
use Rattle.std.specs.Prelude.{if◌then◌else◌, nat_eq}
use Rattle.rob_algebra.specs.Fraction.{Fraction}
use Rattle.rob_algebra.specs.FractionOrder.{eq_ℚ}
use Rattle.rob_meaning.specs.Certificates.{Cover, Item}
use Rattle.rob_meaning.specs.Places.{0ℚ, at, tabulate}
use Rattle.rob_meaning.specs.RobustModel.{RobustModel}
use Rattle.rob_meaning.specs.SetRows.{set_rows}
use Rattle.rob_counterpart.specs.MasterItems.{weighted_kept}
use Rattle.rob_counterpart.specs.ReadNumbers.{covers_kept, concat}
use Rattle.rob_counterpart.proofs.Pairs.TabulateLemmas.{tabulate-same}
use Rattle.rob_runs.specs.Readings.{form_covers, covers_up_to, of_form}
use Rattle.std.proofs.lemmas.List.{append-nil}
use Rattle.rob_meaning.proofs.Lists.TabulateLemmas.{tabulate-more}
use Rattle.rob_counterpart.proofs.Proving.KeptLemmas.{covers_kept-append}

append_more : {A : Type 0} (xs ys zs : List A) → (xs ++ ys) ++ zs ≡ xs ++ (ys ++ zs)
append_more [] ys zs = refl
append_more {A} (x ∷ xs) ys zs = ap (λ (vs : List A). x ∷ vs) (append_more xs ys zs)

-- ---- covers
concat-more : (n : ℕ) (f : ℕ → List Cover) → concat (tabulate (suc n) f) ≡ concat (tabulate n f) ++ f n
concat-more zero f = append-nil (f zero)
concat-more (suc n) f =
    ap (λ (xs : List Cover). f zero ++ xs) (concat-more n (λ k. f (suc k)))
    ∙ sym (append_more (f zero) (concat (tabulate n (λ k. f (suc k)))) (f (suc n)))

module _ (m : RobustModel) where
  pub covers_up_to-more : (n : ℕ) (amounts : ℕ → List Fraction)
      → covers_up_to m (suc n) amounts ≡ covers_up_to m n amounts ++ covers_kept (form_covers m amounts n)
  covers_up_to-more n amounts =
      ap covers_kept (concat-more n (form_covers m amounts))
      ∙ covers_kept-append (concat (tabulate n (form_covers m amounts))) (form_covers m amounts n)

  pub covers_up_to-same : (n : ℕ) (amounts others : ℕ → List Fraction) → ((i : ℕ) → i < n → amounts i ≡ others i)
      → covers_up_to m n amounts ≡ covers_up_to m n others
  covers_up_to-same n amounts others h =
      ap (λ (xs : List (List Cover)). covers_kept (concat xs))
      (tabulate-same n (form_covers m amounts) (form_covers m others) (λ i l.
      ap (λ (xs : List Fraction).
      tabulate (length (set_rows m)) (λ r. record { form = i; set_row = r; amount = at xs r })) (h i l)))

-- ---- items
pub of_form-append : (i : ℕ) (xs ys : List Item) → of_form i (xs ++ ys) ≡ of_form i xs ++ of_form i ys
of_form-append i [] ys = refl
of_form-append i (x ∷ xs) ys = by (nat_eq x.form i) (of_form-append i xs ys)
  where
    by : (v : Bool) → of_form i (xs ++ ys) ≡ of_form i xs ++ of_form i ys
        → (if v then x ∷ of_form i (xs ++ ys) else of_form i (xs ++ ys))
        ≡ (if v then x ∷ of_form i xs else of_form i xs) ++ of_form i ys
    by true e = ap (λ (zs : List Item). x ∷ zs) e
    by false e = e

weighted_kept-append : (xs ys : List Item) → weighted_kept (xs ++ ys) ≡ weighted_kept xs ++ weighted_kept ys
weighted_kept-append [] ys = refl
weighted_kept-append (x ∷ xs) ys = by (eq_ℚ x.weight 0ℚ) (weighted_kept-append xs ys)
  where
    by : (v : Bool) → weighted_kept (xs ++ ys) ≡ weighted_kept xs ++ weighted_kept ys
        → (if v then weighted_kept (xs ++ ys) else x ∷ weighted_kept (xs ++ ys))
        ≡ (if v then weighted_kept xs else x ∷ weighted_kept xs) ++ weighted_kept ys
    by true e = e
    by false e = ap (λ (zs : List Item). x ∷ zs) e

pub weighted_kept-more : (n : ℕ) (items : ℕ → Item)
    → weighted_kept (tabulate (suc n) items) ≡ weighted_kept (tabulate n items) ++ weighted_kept (items n ∷ [])
weighted_kept-more n items =
    ap weighted_kept (tabulate-more n items) ∙ weighted_kept-append (tabulate n items) (items n ∷ [])
