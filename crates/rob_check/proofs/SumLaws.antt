-- Sums as they are computed are the sums that the definitions say: of items, column by column.
use Rattle.std.proofs.Common.{◌≡◌, ℕ, zero, suc, ◌+◌, ◌<◌, ◌≤◌, pos, negsuc, Bool, List, [], ◌∷◌, ◌++◌, map, length, arith, refl, sym, ◌∙◌, ap, subst, inl, inr, ◌⊎◌}
use Rattle.std.specs.Bool.{Decides}
use Rattle.std.specs.Prelude.{Option, Some, None}
use Rattle.rob_algebra.specs.Fraction.{Fraction, of_int, neg_ℚ, ◌+ℚ◌, ◌*ℚ◌, ◌<ℚ◌}
use Rattle.rob_algebra.specs.FractionLaws.{ℚ-add_assoc, ℚ-zero-add, ℚ_ring}
use Rattle.rob_algebra.specs.FractionOrder.{eq_ℚ-decides}
use Rattle.rob_algebra.specs.Lists as Lists
use Rattle.rob_algebra.specs.Lists.{length-vec_mat, length-zeros}
use Rattle.rob_algebra.specs.Width.{kept}
use Rattle.rob_meaning.proofs.Proving.ItemLemmas.{cuts_shape}
use Rattle.rob_meaning.proofs.Lists.PlaceLemmas.{at-combination, at-cut, same_by_places}
use Rattle.rob_meaning.specs.Certificates.{Item}
use Rattle.rob_meaning.specs.Clearing.{fractions}
use Rattle.rob_meaning.specs.Forms.{form_columns, matrices, matrix_at, plan_vector}
use Rattle.rob_meaning.specs.Places.{0ℚ, at, Each}
use Rattle.rob_meaning.specs.Proves.{combination, cut_of, target}
use Rattle.rob_meaning.specs.RobustModel.{RobustModel, Sense, minimise, maximise, column_count}
use Rattle.rob_meaning.specs.Vectors.{dot, zeros}
use Rattle.rob_model.proofs.KeptLemmas.{kept_is, some_is, through, through_kept}
use Rattle.rob_model.proofs.ValueLemmas.{add-zero_ℚ}
use Rattle.rob_model.specs.Within.{◌>>=◌}
use Rattle.rob_check.specs.Claims.{SumsToPositive}
use Rattle.rob_check.specs.Conditions.{column_within, is_asked, item_within, sum_test, sum_tests}
use Rattle.rob_check.specs.Sums.{added_within, column, dot_within, numbers_from, products, with_part}
use Rattle.rob_check.specs.Verdicts.{Judges, verdict}
use Rattle.rob_check.proofs.JudgeLemmas.{Tells, judges_append, judges_as, judges_each, positive_decides, tells_by}

-- the sum of all entries
abbrev pub total : List Fraction → Fraction
total xs = Lists.total ℚ_ring xs

module _ (limit : ℕ) where
  -- parts that are computed are added up
  pub added_is : {A : Type 0} (f : A → Option Fraction) (g : A → Fraction)
      → ((a : A) (x : Fraction) → f a ≡ Some x → g a ≡ x)
      → (list : List A) (s v : Fraction) → added_within limit s (map f list) ≡ Some v → s +ℚ total (map g list) ≡ v
  added_is f g h [] s v e = add-zero_ℚ s ∙ some_is e
  added_is f g h (a ∷ list) s v e =
      let first = through (with_part limit s (f a)) (λ next. added_within limit next (map f list)) v e in
      let part = through (f a) (λ x. kept limit (s +ℚ x)) first.0 first.1 in
      sym (ℚ-add_assoc s (g a) (total (map g list)))
      ∙ ap (λ y. y +ℚ total (map g list))
      (ap (λ x. s +ℚ x) (h a part.0 part.1) ∙ kept_is limit (s +ℚ part.0) first.0 part.2)
      ∙ added_is f g h list first.0 v first.2

  dot_from : (xs ys : List Fraction) (s v : Fraction)
      → added_within limit s (products limit xs ys) ≡ Some v → s +ℚ dot xs ys ≡ v
  dot_from [] ys s v e = add-zero_ℚ s ∙ some_is e
  dot_from (x ∷ xs) [] s v e = add-zero_ℚ s ∙ some_is e
  dot_from (x ∷ xs) (y ∷ ys) s v e =
      let first =
      through (with_part limit s (kept limit (x *ℚ y)))
      (λ next. added_within limit next (products limit xs ys)) v e in
      let part = through_kept limit (x *ℚ y) (λ z. kept limit (s +ℚ z)) first.0 first.1 in
      sym (ℚ-add_assoc s (x *ℚ y) (dot xs ys))
      ∙ ap (λ z. z +ℚ dot xs ys) (kept_is limit (s +ℚ (x *ℚ y)) first.0 part)
      ∙ dot_from xs ys first.0 v first.2

  pub dot_is : (xs ys : List Fraction) (v : Fraction) → dot_within limit xs ys ≡ Some v → dot xs ys ≡ v
  dot_is xs ys v e = sym (ℚ-zero-add (dot xs ys)) ∙ dot_from xs ys 0ℚ v e

  -- ---- items
  module _ (m : RobustModel) where
    item_is : (j : ℕ) (item : Item) (x : Fraction) → item_within limit (matrices m) j item ≡ Some x
        → item.weight *ℚ at (cut_of m item) j ≡ x
    item_is j item x e =
        let cut = through
        (dot_within limit (item.base ∷ item.vector) (column j (fractions (matrix_at (matrices m) item.form))))
        (λ y. kept limit (item.weight *ℚ y)) x e in
        ap (λ y. item.weight *ℚ y)
        (at-cut m item j
        ∙ dot_is (item.base ∷ item.vector) (column j (fractions (matrix_at (matrices m) item.form))) cut.0 cut.1)
        ∙ kept_is limit (item.weight *ℚ cut.0) x cut.2

    weighted_total : (j : ℕ) (items : List Item)
        → dot (map (λ (i : Item). i.weight) items) (column j (map (cut_of m) items))
        ≡ total (map (λ (i : Item). i.weight *ℚ at (cut_of m i) j) items)
    weighted_total j [] = refl
    weighted_total j (item ∷ items) = ap (λ y. item.weight *ℚ at (cut_of m item) j +ℚ y) (weighted_total j items)

    column_is : (items : List Item) (j : ℕ) (x : Fraction) → column_within limit (matrices m) items j ≡ Some x
        → at (combination m items) j ≡ x
    column_is items j x e =
        at-combination m items j ∙ weighted_total j items
        ∙ sym (ℚ-zero-add (total (map (λ (i : Item). i.weight *ℚ at (cut_of m i) j) items)))
        ∙ added_is (item_within limit (matrices m) j) (λ (i : Item). i.weight *ℚ at (cut_of m i) j)
        (item_is j) items 0ℚ x e

-- what is asked of the sum in a column
abbrev IsAsked : Sense → ℕ → Option Fraction → ℕ → Fraction → Type 0
IsAsked sense n (Some v) j x = x ≡ at (target sense n v) j
IsAsked sense n None zero x = 0ℚ <ℚ x
IsAsked sense n None (suc j) x = x ≡ 0ℚ

asked_decides : (sense : Sense) (n : ℕ) (value : Option Fraction) (j : ℕ) (x : Fraction)
    → Decides (is_asked sense n value j x) (IsAsked sense n value j x)
asked_decides sense n (Some v) j x = eq_ℚ-decides x (at (target sense n v) j)
asked_decides sense n None zero x = positive_decides x
asked_decides sense n None (suc j) x = eq_ℚ-decides x 0ℚ

-- ---- numbers in order
le_cases : (k j : ℕ) → k ≤ j → (k ≡ j) ⊎ (suc k ≤ j)
le_cases zero zero low = inl refl
le_cases zero (suc j) low = inr (omega arith)
le_cases (suc k) zero low = absurd (omega arith)
le_cases (suc k) (suc j) low = up (le_cases k j (omega arith))
  where
    up : (k ≡ j) ⊎ (suc k ≤ j) → (suc k ≡ suc j) ⊎ (suc (suc k) ≤ suc j)
    up (inl e) = inl (ap suc e)
    up (inr le) = inr (omega arith)

pub each_numbers : (P : ℕ → Type 0) (k n : ℕ) → Each P (numbers_from k n) → (j : ℕ) → k ≤ j → j < k + n → P j
each_numbers P k zero h j low high = absurd (omega arith)
each_numbers P k (suc n) h j low high = by (le_cases k j low) (λ le. each_numbers P (suc k) n h.1 j le (omega arith))
  where
    by : (k ≡ j) ⊎ (suc k ≤ j) → (suc k ≤ j → P j) → P j
    by (inl e) more = subst P e h.0
    by (inr le) more = more le

pub numbers_each : (P : ℕ → Type 0) (k n : ℕ) → ((j : ℕ) → k ≤ j → j < k + n → P j) → Each P (numbers_from k n)
numbers_each P k zero h = tt
numbers_each P k (suc n) h =
    (h k (omega arith) (omega arith), numbers_each P (suc k) n (λ j low high. h j (omega arith) (omega arith)))

-- ---- the sums of an optimal certificate, and of an infeasible one
length-ends : (a b : Fraction) (n : ℕ) → length (plan_vector a (zeros n) b) ≡ suc (suc n)
length-ends a b n = ap suc (last (zeros n) ∙ ap suc (length-zeros ℚ_ring n))
  where
    last : (xs : List Fraction) → length (xs ++ b ∷ []) ≡ suc (length xs)
    last [] = refl
    last (x ∷ xs) = ap suc (last xs)

length-target : (sense : Sense) (n : ℕ) (v : Fraction) → length (target sense n v) ≡ suc (suc n)
length-target minimise n v = length-ends v (of_int (negsuc 0)) n
length-target maximise n v = length-ends (neg_ℚ v) (of_int (pos 1)) n

module _ (limit : ℕ) (m : RobustModel) (items : List Item) where
  abbrev asked_at : Option Fraction → ℕ → Type 0
  asked_at value j = IsAsked m.sense (column_count m) value j (at (combination m items) j)

  sum_tells : (value : Option Fraction) (j : ℕ)
      → Tells (asked_at value j) (sum_test limit (matrices m) m.sense (column_count m) value items j).holds
  sum_tells value j =
      tells_by (asked_at value j)
      (column_within limit (matrices m) items j >>= (λ x. Some (is_asked m.sense (column_count m) value j x)))
      (λ t e. told t
      (through (column_within limit (matrices m) items j)
      (λ x. Some (is_asked m.sense (column_count m) value j x)) t e))
    where
      told : (t : Bool) → (x : Fraction) × (column_within limit (matrices m) items j ≡ Some x)
          × (Some (is_asked m.sense (column_count m) value j x) ≡ Some t) → Decides t (asked_at value j)
      told t (x, is, e) =
          subst (λ t. Decides t (asked_at value j)) (some_is e)
          (subst (λ y. Decides (is_asked m.sense (column_count m) value j x)
          (IsAsked m.sense (column_count m) value j y)) (sym (column_is limit m items j x is))
          (asked_decides m.sense (column_count m) value j x))

  sums_judged : (value : Option Fraction)
      → Judges (Each (asked_at value) (numbers_from 1 (suc (column_count m))) × (asked_at value 0 × Unit {0}))
      (verdict (sum_tests limit (matrices m) m.sense (column_count m) value items))
  sums_judged value =
      judges_append (Each (asked_at value) (numbers_from 1 (suc (column_count m)))) (asked_at value 0 × Unit {0})
      (map (sum_test limit (matrices m) m.sense (column_count m) value items) (numbers_from 1 (suc (column_count m))))
      (sum_test limit (matrices m) m.sense (column_count m) value items 0 ∷ [])
      (judges_each (asked_at value) (sum_test limit (matrices m) m.sense (column_count m) value items) (sum_tells value)
      (numbers_from 1 (suc (column_count m))))
      (judges_each (asked_at value) (sum_test limit (matrices m) m.sense (column_count m) value items)
      (sum_tells value) (0 ∷ []))

  length-combination : length (combination m items) ≡ suc (suc (column_count m))
  length-combination =
      length-vec_mat ℚ_ring (form_columns m) (map (λ (i : Item). i.weight) items)
      (map (cut_of m) items) (cuts_shape m items)

  same_target : (ys : List Fraction) → length ys ≡ suc (suc (column_count m))
      → Each (λ j. at (combination m items) j ≡ at ys j) (numbers_from 1 (suc (column_count m)))
      → at (combination m items) 0 ≡ at ys 0 → combination m items ≡ ys
  same_target ys len rest first =
      same_by_places (combination m items) ys (length-combination ∙ sym len) at_place
    where
      at_place : (k : ℕ) → k < length (combination m items) → at (combination m items) k ≡ at ys k
      at_place zero inside = first
      at_place (suc k) inside =
          each_numbers (λ j. at (combination m items) j ≡ at ys j) 1 (suc (column_count m)) rest (suc k) (omega arith)
          (omega (arith, length-combination))

  pub optimal_sums : (v : Fraction)
      → Judges (combination m items ≡ target m.sense (column_count m) v)
      (verdict (sum_tests limit (matrices m) m.sense (column_count m) (Some v) items))
  optimal_sums v =
      judges_as (Each (asked_at (Some v)) (numbers_from 1 (suc (column_count m))) × (asked_at (Some v) 0 × Unit {0}))
      (combination m items ≡ target m.sense (column_count m) v)
      (verdict (sum_tests limit (matrices m) m.sense (column_count m) (Some v) items))
      (λ h. same_target (target m.sense (column_count m) v) (length-target m.sense (column_count m) v) h.0 h.1.0)
      (λ e. (
        numbers_each (asked_at (Some v)) 1 (suc (column_count m))
            (λ j low high. ap (λ (xs : List Fraction). at xs j) e),
        (ap (λ (xs : List Fraction). at xs 0) e, tt),
      ))
      (sums_judged (Some v))

  at_zero_ends : (a : Fraction) (j : ℕ) → at (plan_vector a (zeros (column_count m)) 0ℚ) (suc j) ≡ 0ℚ
  at_zero_ends a j = zero_last (column_count m) j
    where
      zero_last : (n i : ℕ) → at (zeros n ++ 0ℚ ∷ []) i ≡ 0ℚ
      zero_last zero zero = refl
      zero_last zero (suc i) = refl
      zero_last (suc n) zero = refl
      zero_last (suc n) (suc i) = zero_last n i

  column_zero : Each (asked_at None) (numbers_from 1 (suc (column_count m))) → (j : ℕ) → 1 ≤ j
      → j < 1 + suc (column_count m)
      → at (combination m items) j ≡ at (plan_vector (at (combination m items) 0) (zeros (column_count m)) 0ℚ) j
  column_zero all zero low high = absurd (omega arith)
  column_zero all (suc j) low high =
      each_numbers (asked_at None) 1 (suc (column_count m)) all (suc j) low high
      ∙ sym (at_zero_ends (at (combination m items) 0) j)

  zero_column : SumsToPositive m items → (j : ℕ) → 1 ≤ j → j < 1 + suc (column_count m) → asked_at None j
  zero_column h zero low high = absurd (omega arith)
  zero_column h (suc j) low high = ap (λ (xs : List Fraction). at xs (suc j)) h.sums ∙ at_zero_ends h.constant j

  pub infeasible_sums : Judges (SumsToPositive m items)
      (verdict (sum_tests limit (matrices m) m.sense (column_count m) None items))
  infeasible_sums =
      judges_as (Each (asked_at None) (numbers_from 1 (suc (column_count m))) × (asked_at None 0 × Unit {0}))
      (SumsToPositive m items)
      (verdict (sum_tests limit (matrices m) m.sense (column_count m) None items))
      (λ h. record {
        constant = at (combination m items) 0;
        positive = h.1.0;
        sums = same_target (plan_vector (at (combination m items) 0) (zeros (column_count m)) 0ℚ)
            (length-ends (at (combination m items) 0) 0ℚ (column_count m))
            (numbers_each
            (λ j. at (combination m items) j
            ≡ at (plan_vector (at (combination m items) 0) (zeros (column_count m)) 0ℚ) j) 1 (suc (column_count m))
            (column_zero h.0)) refl;
      })
      (λ h. (
        numbers_each (asked_at None) 1 (suc (column_count m)) (zero_column h),
        (subst (λ (xs : List Fraction). 0ℚ <ℚ at xs 0) (sym h.sums) h.positive, tt),
      ))
      (sums_judged None)
