-- The first rows and columns of a table: their common denominator, and their whole numbers.
use Rattle.std.specs.Prelude.{◌≡◌, ℕ, zero, suc, ◌+◌, ◌-◌, ◌<◌, ◌≤◌, ℤ, List, [], ◌∷◌, ◌++◌, map, Result, Ok, Err, IfOk, OnOk, nat_abs, refl}
use Rattle.std.proofs.Common.{sym, ◌∙◌, ap, ap₂, arith, subst, append_assoc, add-zero, inl, inr, append-nil}
use Rattle.std.proofs.lemmas.List.{map-append}
use Rattle.rob_algebra.specs.Fraction.{Fraction}
use Rattle.rob_meaning.specs.Clearing.{denominator, entries, lcm, whole_at}
use Rattle.rob_meaning.specs.Coefficients.{Table}
use Rattle.rob_meaning.specs.Places.{Each, tabulate}
use Rattle.rob_meaning.proofs.Lists.EachLemmas.{each_append}
use Rattle.rob_elab.specs.Forms.{MatrixFits, rows_of}
use Rattle.rob_sets.specs.FirstWide.{IsWideCleared, Some_of}
use Rattle.rob_sets.specs.declared.error.Stop.{Stop}
use Rattle.rob_sets.proofs.WholeRows.ClearingSteps.{denominator-first, denominator-more, whole_none}
use Rattle.rob_sets.proofs.Cells.ListLemmas.{some_left, some_right}
use Rattle.rob_meaning.proofs.Lists.TabulateLemmas.{tabulate_next}

-- ---- the common denominator
-- lists that grow, and what each grows by
module _ (xs ys : ℕ → List Fraction) (more : (k : ℕ) → xs (k + 1) ≡ xs k ++ ys k) where
  rises : (k d : ℕ) → denominator (xs k) ≤ denominator (xs (k + d))
  rises k zero = omega (arith, ap (λ n. denominator (xs n)) (add-zero k))
  rises k (suc d) =
      omega (
        arith,
        rises k d,
        denominator-first (xs (k + d)) (ys (k + d)),
        ap denominator (more (k + d)),
        ap (λ n. denominator (xs n)) (let e : k + suc d ≡ (k + d) + 1 = omega arith in e),
      )

  wide_later : (limit k n : ℕ) → k < n → limit < denominator (xs k ++ ys k) → limit < denominator (xs n)
  wide_later limit k n inside wide =
      omega (
        arith,
        wide,
        rises (k + 1) (n - (k + 1)),
        ap denominator (more k),
        ap (λ i. denominator (xs i)) (let e : (k + 1) + (n - (k + 1)) ≡ n = omega arith in e),
      )

-- a number more, behind others
module _ (before : List Fraction) (f : ℕ → Fraction) where
  one_more : (k : ℕ) → before ++ tabulate (k + 1) f ≡ (before ++ tabulate k f) ++ f k ∷ []
  one_more k =
      ap (λ (zs : List Fraction). before ++ zs) (sym (tabulate_next f k))
      ∙ sym (append_assoc before (tabulate k f) (f k ∷ []))

  multiple_is : (k : ℕ) (q : Fraction) (common : ℕ) → q ≡ f k → common ≡ denominator (before ++ tabulate k f)
      → lcm q.den common ≡ denominator ((before ++ tabulate k f) ++ f k ∷ [])
  multiple_is k q common is so_far =
      ap₂ (λ (r : Fraction) (n : ℕ). lcm r.den n) is so_far ∙ sym (denominator-more (before ++ tabulate k f) (f k))

  pub number_more : (k : ℕ) (q : Fraction) (common multiple : ℕ) → q ≡ f k
      → common ≡ denominator (before ++ tabulate k f) → multiple ≡ lcm q.den common
      → multiple ≡ denominator (before ++ tabulate (k + 1) f)
  number_more k q common multiple is so_far h =
      h ∙ multiple_is k q common is so_far ∙ ap denominator (sym (one_more k))

  pub number_wide : (limit k n : ℕ) (q : Fraction) (common : ℕ) → k < n → q ≡ f k
      → common ≡ denominator (before ++ tabulate k f) → limit < lcm q.den common
      → limit < denominator (before ++ tabulate n f)
  number_wide limit k n q common inside is so_far wide =
      wide_later (λ i. before ++ tabulate i f) (λ i. f i ∷ []) one_more limit k n inside
      (subst (λ i. limit < i) (multiple_is k q common is so_far) wide)

-- a row more
module _ (columns : ℕ) (f : Table) where
  entries-both : (xs ys : List (List Fraction)) → entries (xs ++ ys) ≡ entries xs ++ entries ys
  entries-both [] ys = refl
  entries-both (x ∷ xs) ys = ap (λ zs. x ++ zs) (entries-both xs ys) ∙ sym (append_assoc x (entries xs) (entries ys))

  pub rows_more : (k : ℕ) → entries (rows_of (k + 1) columns f)
      ≡ entries (rows_of k columns f) ++ tabulate columns (f k)
  rows_more k =
      ap entries (sym (tabulate_next (λ i. tabulate columns (f i)) k))
      ∙ entries-both (rows_of k columns f) (tabulate columns (f k) ∷ [])
      ∙ ap (λ (zs : List Fraction). entries (rows_of k columns f) ++ zs) (append-nil (tabulate columns (f k)))

  pub rows_wide : (limit k n : ℕ) → k < n
      → limit < denominator (entries (rows_of k columns f) ++ tabulate columns (f k))
      → limit < denominator (entries (rows_of n columns f))
  rows_wide limit k n inside wide =
      wide_later (λ i. entries (rows_of i columns f)) (λ i. tabulate columns (f i)) rows_more limit k n inside wide

-- ---- whole numbers
pub mapped_more : {A B : Type 0} (h : A → B) (items new : List B) (z : B) (n : ℕ) (f : ℕ → A)
    → items ≡ map h (tabulate n f) → new ≡ items ++ z ∷ [] → z ≡ h (f n) → new ≡ map h (tabulate (n + 1) f)
mapped_more {A} {B} h items new z n f so_far added is =
    added ∙ ap₂ (λ (ys : List B) (y : B). ys ++ y ∷ []) so_far is ∙ sym (map-append h (tabulate n f) (f n ∷ []))
    ∙ ap (map h) (tabulate_next f n)

module _ (P : Fraction → Type 0) where
  pub some_number : (n : ℕ) (f : ℕ → Fraction) (k : ℕ) → k < n → P (f k) → Some_of P (tabulate n f)
  some_number zero f k inside w = absurd (omega arith)
  some_number (suc n) f zero inside w = inl w
  some_number (suc n) f (suc k) inside w = inr (some_number n (λ i. f (suc i)) k (omega arith) w)

  pub some_row : (n : ℕ) (f : ℕ → List Fraction) (k : ℕ) → k < n → Some_of P (f k)
      → Some_of P (entries (tabulate n f))
  some_row zero f k inside w = absurd (omega arith)
  some_row (suc n) f zero inside w = some_left P (f 0) (entries (tabulate n (λ i. f (suc i)))) w
  some_row (suc n) f (suc k) inside w =
      some_right P (f 0) (entries (tabulate n (λ i. f (suc i)))) (some_row n (λ i. f (suc i)) k (omega arith) w)

-- ---- what is cleared
entries_fit : (limit d : ℕ) (rows : List (List Fraction)) → MatrixFits limit (map (map (whole_at d)) rows)
    → Each (λ a. nat_abs a ≤ limit) (map (whole_at d) (entries rows))
entries_fit limit d [] f = tt
entries_fit limit d (row ∷ rows) f =
    subst (λ (xs : List ℤ). Each (λ a. nat_abs a ≤ limit) xs) (sym (map-append (whole_at d) row (entries rows)))
    (each_append (λ a. nat_abs a ≤ limit) (map (whole_at d) row) (map (whole_at d) (entries rows)) f.0
    (entries_fit limit d rows f.1))

pub rows_fit : (limit : ℕ) (rows : List (List Fraction)) (common : ℕ) (r : Result (List (List ℤ)) Stop)
    → common ≡ denominator (entries rows) → common ≤ limit
    → IfOk r (λ list. list ≡ map (map (whole_at common)) rows) → IfOk r (λ list. MatrixFits limit list)
    → OnOk r (IsWideCleared limit (entries rows) → ⊥)
rows_fit limit rows common (Err e) is within h k = tt
rows_fit limit rows common (Ok list) is within h k = by
  where
    by : IsWideCleared limit (entries rows) → ⊥
    by (inl w) = omega arith
    by (inr w) = whole_none limit (denominator (entries rows)) (entries rows)
        (entries_fit limit (denominator (entries rows)) rows
        (subst (λ d. MatrixFits limit (map (map (whole_at d)) rows)) is
        (subst (λ (xs : List (List ℤ)). MatrixFits limit xs) h k))) w
