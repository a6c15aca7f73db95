-- A branch at a number that isn't whole splits the range of its variable into two, so the product of ranges falls.
use Rattle.std.specs.Prelude.{◌≡◌, ◌≢◌, ◌≤◌, ℕ, zero, suc, ◌+◌, ◌*◌, ℤ, pos, negsuc, nat_abs, ◌+ℤ◌, ◌-ℤ◌, ◌≤ℤ◌, ◌<ℤ◌, true, false, T, List, [], ◌∷◌, Option, Some, None, ◌⊎◌, refl}
use Rattle.std.proofs.Common.{ap, ap₂, sym, ◌∙◌, subst, inl, inr, arith, Ordering, Less, Equal, Greater, add-mul, mul-add}
use Rattle.std.proofs.lemmas.Int.{ints}
use Rattle.std.proofs.Math.Nat.{mul-le-mul, one-le-mul}
use Rattle.std.specs.Ordering.{MatchOrdering}
use Rattle.rob_algebra.specs.Fraction.{Fraction, of_int, ◌≤ℚ◌, ◌<ℚ◌}
use Rattle.rob_algebra.specs.FractionOrderLaws as Q
use Rattle.rob_algebra.specs.FractionOrder.{cmp_ℚ, cmp_ℚ-ranks}
use Rattle.rob_algebra.specs.IntegerOrder as Z
use Rattle.rob_algebra.proofs.Parts.{of_int-parts}
use Rattle.rob_meaning.specs.RobustModel.{Variable}
use Rattle.rob_reach.proofs.RangeLemmas.{declared, lower_at, upper_at}
use Rattle.rob_reach.proofs.WholeNumberLemmas.{floor_greatest, at_most_floor, at_most_ceiling, floor-int, ceiling-int, below_floor_next}
use Rattle.rob_reach.specs.Boxes.{lesser_by, lesser, greater, change_at, tightened}
use Rattle.rob_reach.specs.Ranges.{has_both, is_bounded, range_between, range_at, product_of_ranges}
use Rattle.rob_reach.specs.Trees.{IsIn}
use Rattle.rob_reach.specs.WholeNumbers.{IsWhole, floor, ceiling, at_least_1, range}
use Rattle.rob_algebra.proofs.WholeNumbers.{of_int_le}

-- ---- counts of whole numbers
at_least_1-some : (z : ℤ) (n : ℕ) → z ≡ pos n → at_least_1 (z +ℤ pos 1) ≡ suc n
at_least_1-some z n e = ap (λ w. at_least_1 (w +ℤ pos 1)) e ∙ next n
  where
    next : (n : ℕ) → at_least_1 (pos n +ℤ pos 1) ≡ suc n
    next n = subst (λ z. at_least_1 z ≡ suc n) (up n) refl
      where
        up : (n : ℕ) → pos (suc n) ≡ pos n +ℤ pos 1
        up n = omega (arith, ints)

nonneg_is : (z : ℤ) → pos 0 ≤ℤ z → z ≡ pos (nat_abs z)
nonneg_is (pos n) h = refl
nonneg_is (negsuc n) h = absurd (omega (arith, ints))

-- from f to k and from k + 1 to c there are as many as from f to c
counts_add : (f k c : ℤ) → f ≤ℤ k → (k +ℤ pos 1) ≤ℤ c →
    at_least_1 (k -ℤ f +ℤ pos 1) + at_least_1 (c -ℤ (k +ℤ pos 1) +ℤ pos 1) ≡ at_least_1 (c -ℤ f +ℤ pos 1)
counts_add f k c h g =
    by (nat_abs (k -ℤ f)) (nat_abs (c -ℤ (k +ℤ pos 1))) (nonneg_is (k -ℤ f) (Z.nonneg_sub f k h))
    (nonneg_is (c -ℤ (k +ℤ pos 1)) (Z.nonneg_sub (k +ℤ pos 1) c g))
  where
    by : (p q : ℕ) → k -ℤ f ≡ pos p → c -ℤ (k +ℤ pos 1) ≡ pos q →
        at_least_1 (k -ℤ f +ℤ pos 1) + at_least_1 (c -ℤ (k +ℤ pos 1) +ℤ pos 1) ≡ at_least_1 (c -ℤ f +ℤ pos 1)
    by p q d e =
        ap₂ ◌+◌ (at_least_1-some (k -ℤ f) p d) (at_least_1-some (c -ℤ (k +ℤ pos 1)) q e)
        ∙ (omega arith)
        ∙ sym (at_least_1-some (c -ℤ f) (suc (p + q)) total)
      where
        total : c -ℤ f ≡ pos (suc (p + q))
        total = omega (arith, ints)

-- ---- ranges
lesser-int : (b : Fraction) (k : Fraction) → k ≤ℚ b → lesser (Some b) k ≡ k
lesser-int b k h = by (cmp_ℚ b k) (cmp_ℚ-ranks b k)
  where
    by : (r : Ordering) → MatchOrdering r (b <ℚ k) (b ≡ k) (k <ℚ b) → lesser_by r b k ≡ k
    by Less g = absurd (Q.not_lt_ℚ k b h g)
    by Equal g = g
    by Greater g = refl

greater-int : (l : Fraction) (k : Fraction) → l ≤ℚ k → greater (Some l) k ≡ k
greater-int l k h = by (cmp_ℚ k l) (cmp_ℚ-ranks k l)
  where
    by : (r : Ordering) → MatchOrdering r (k <ℚ l) (k ≡ l) (l <ℚ k) → lesser_by r l k ≡ k
    by Less g = absurd (Q.not_lt_ℚ l k h g)
    by Equal g = sym g
    by Greater g = refl

-- what is said of a number that isn't whole
module _ (x : Fraction) (broken : IsWhole x → ⊥) where
  pub below_number : of_int (floor x) ≤ℚ x
  below_number = at_most_floor (floor x) x (le_self (floor x))
    where
      le_self : (a : ℤ) → a ≤ℤ a
      le_self a = omega (arith, ints)

  -- a whole number that isn't below it is at least its floor and 1
  pub next_above : (z : ℤ) → x ≤ℚ of_int z → (floor x +ℤ pos 1) ≤ℤ z
  next_above z h = by (Z.le_total z (floor x))
    where
      next : (a b : ℤ) → a <ℤ b → (a +ℤ pos 1) ≤ℤ b
      next a b h = omega (arith, ints)

      by : (z ≤ℤ floor x) ⊎ (floor x <ℤ z) → (floor x +ℤ pos 1) ≤ℤ z
      by (inl g) =
          absurd (broken (subst IsWhole
          (Q.le_antisym_ℚ (of_int (floor x)) x below_number
          (Q.le_trans_ℚ x (of_int z) (of_int (floor x)) h (of_int_le z (floor x) g)))
          (of_int-parts (floor x)).1))
      by (inr g) = next (floor x) z g

  pub above_number : x ≤ℚ of_int (floor x +ℤ pos 1)
  above_number = Q.le_of_lt_ℚ x (of_int (floor x +ℤ pos 1)) (below_floor_next x)

  pub range_splits : (l b : Fraction) → l ≤ℚ x → x ≤ℚ b →
      range l (lesser (Some b) (of_int (floor x))) + range (greater (Some l) (of_int (floor x +ℤ pos 1))) b ≡ range l b
  range_splits l b h g =
      ap₂ ◌+◌
      (ap (λ q. range l q) (lesser-int b (of_int (floor x)) (Q.le_trans_ℚ (of_int (floor x)) x b below_number g))
      ∙ ap (λ z. at_least_1 (z -ℤ floor l +ℤ pos 1)) (ceiling-int (floor x)))
      (ap (λ q. range q b) (greater-int l (of_int (floor x +ℤ pos 1))
      (Q.le_trans_ℚ l x (of_int (floor x +ℤ pos 1)) h above_number))
      ∙ ap (λ z. at_least_1 (ceiling b -ℤ z +ℤ pos 1)) (floor-int (floor x +ℤ pos 1)))
      ∙ counts_add (floor l) (floor x) (ceiling b)
      (floor_greatest (floor l) x
      (Q.le_trans_ℚ (of_int (floor l)) l x (at_most_floor (floor l) l (le_self (floor l))) h))
      (next_above (ceiling b) (Q.le_trans_ℚ x b (of_int (ceiling b)) g (at_most_ceiling b)))
    where
      le_self : (a : ℤ) → a ≤ℤ a
      le_self a = omega (arith, ints)

  -- the range of the branched variable splits
  pub here_splits : (xs : List Variable) (j : ℕ) → T (is_bounded xs j) → lower_at xs j ≤ℚ x → x ≤ℚ upper_at xs j →
      range_at (change_at (tightened true (floor x)) j xs) j
      + range_at (change_at (tightened false (floor x +ℤ pos 1)) j xs) j
      ≡ range_at xs j
  here_splits [] j some h g = absurd some
  here_splits (v ∷ xs) zero some h g = by v.lower v.upper some h g
    where
      by : (l b : Option Fraction) → T (has_both l b) → declared l ≤ℚ x → x ≤ℚ declared b →
          range_between l (Some (lesser b (of_int (floor x))))
          + range_between (Some (greater l (of_int (floor x +ℤ pos 1)))) b
          ≡ range_between l b
      by None b some h g = absurd some
      by (Some l) None some h g = absurd some
      by (Some l) (Some b) some h g = range_splits l b h g
  here_splits (v ∷ xs) (suc j) some h g = here_splits xs j some h g

-- ---- positive ranges
at_least_1-positive : (z : ℤ) → 1 ≤ at_least_1 z
at_least_1-positive (pos zero) = omega arith
at_least_1-positive (pos (suc n)) = omega arith
at_least_1-positive (negsuc n) = omega arith

range_positive : (l b : Option Fraction) → 1 ≤ range_between l b
range_positive None b = omega arith
range_positive (Some l) None = omega arith
range_positive (Some l) (Some b) = at_least_1-positive (ceiling b -ℤ floor l +ℤ pos 1)

range_at_positive : (xs : List Variable) (j : ℕ) → 1 ≤ range_at xs j
range_at_positive [] j = omega arith
range_at_positive (x ∷ xs) zero = range_positive x.lower x.upper
range_at_positive (x ∷ xs) (suc j) = range_at_positive xs j

pub product_positive : (xs : List Variable) (names : List ℕ) → 1 ≤ product_of_ranges xs names
product_positive xs [] = omega arith
product_positive xs (i ∷ names) = one-le-mul (range_at_positive xs i) (product_positive xs names)

-- ---- the product of ranges, where one range splits and the others stay
-- the ranges of variable i in the two boxes of a branch on j
abbrev Splits : ℕ → ℕ → ℕ → ℕ → ℕ → Type 0
Splits i j below above whole = ((i ≡ j) × (below + above ≡ whole)) ⊎ ((i ≢ j) × ((below ≡ whole) × (above ≡ whole)))

each_splits : (f g : Variable → Variable) (xs : List Variable) (j : ℕ) →
    range_at (change_at f j xs) j + range_at (change_at g j xs) j ≡ range_at xs j → (i : ℕ) →
    Splits i j (range_at (change_at f j xs) i) (range_at (change_at g j xs) i) (range_at xs i)
each_splits f g [] j h i = absurd (omega arith)
each_splits f g (x ∷ xs) zero h zero = inl (refl, h)
each_splits f g (x ∷ xs) zero h (suc i) = inr (λ e. absurd (omega arith), (refl, refl))
each_splits f g (x ∷ xs) (suc j) h zero = inr (λ e. absurd (omega arith), (refl, refl))
each_splits f g (x ∷ xs) (suc j) h (suc i) = by (each_splits f g xs j h i)
  where
    by : Splits i j (range_at (change_at f j xs) i) (range_at (change_at g j xs) i) (range_at xs i) →
        Splits (suc i) (suc j) (range_at (change_at f j xs) i) (range_at (change_at g j xs) i) (range_at xs i)
    by (inl k) = inl (ap suc k.0, k.1)
    by (inr k) = inr (λ e. k.0 (omega arith), k.1)

-- multiplying out
both_smaller : (a b c p q r : ℕ) → a + b ≡ c → p ≤ r → q ≤ r → a * p + b * q ≤ c * r
both_smaller a b c p q r e h g =
    subst (λ n. a * p + b * q ≤ n * r) e
    (subst (λ n. a * p + b * q ≤ n) (sym (add-mul a b r))
    (sums (mul-le-mul {n₁ = a} {n₂ = a} (omega arith) h) (mul-le-mul {n₁ = b} {n₂ = b} (omega arith) g)))
  where
    sums : {k l m n : ℕ} → k ≤ l → m ≤ n → k + m ≤ l + n
    sums h g = omega arith

rest_splits : (a b c p q r : ℕ) → a ≡ c → b ≡ c → p + q ≤ r → a * p + b * q ≤ c * r
rest_splits a b c p q r d e h =
    subst (λ n. n * p + b * q ≤ c * r) (sym d)
    (subst (λ n. c * p + n * q ≤ c * r) (sym e)
    (subst (λ n. n ≤ c * r) (mul-add c p q) (mul-le-mul {n₁ = c} {n₂ = c} (omega arith) h)))

module _ (f g : Variable → Variable) (xs : List Variable) (j : ℕ)
    (splits : (i : ℕ)
    → Splits i j (range_at (change_at f j xs) i) (range_at (change_at g j xs) i) (range_at xs i)) where
  below_smaller : (names : List ℕ) → product_of_ranges (change_at f j xs) names ≤ product_of_ranges xs names
  below_smaller [] = omega arith
  below_smaller (i ∷ names) = mul-le-mul (by (splits i)) (below_smaller names)
    where
      by : Splits i j (range_at (change_at f j xs) i) (range_at (change_at g j xs) i) (range_at xs i) →
          range_at (change_at f j xs) i ≤ range_at xs i
      by (inl k) = omega (arith, k.1)
      by (inr k) = omega (arith, k.1.0)

  above_smaller : (names : List ℕ) → product_of_ranges (change_at g j xs) names ≤ product_of_ranges xs names
  above_smaller [] = omega arith
  above_smaller (i ∷ names) = mul-le-mul (by (splits i)) (above_smaller names)
    where
      by : Splits i j (range_at (change_at f j xs) i) (range_at (change_at g j xs) i) (range_at xs i) →
          range_at (change_at g j xs) i ≤ range_at xs i
      by (inl k) = omega (arith, k.1)
      by (inr k) = omega (arith, k.1.1)

  -- together the two products are at most the whole one
  product_splits : (names : List ℕ) → IsIn j names →
      product_of_ranges (change_at f j xs) names + product_of_ranges (change_at g j xs) names
      ≤ product_of_ranges xs names
  product_splits [] h = absurd h
  product_splits (i ∷ names) h = by (product_splits names) (splits i) h
    where
      by : (IsIn j names → product_of_ranges (change_at f j xs) names + product_of_ranges (change_at g j xs) names
          ≤ product_of_ranges xs names) →
          Splits i j (range_at (change_at f j xs) i) (range_at (change_at g j xs) i) (range_at xs i)
          → IsIn j (i ∷ names) →
          product_of_ranges (change_at f j xs) (i ∷ names) + product_of_ranges (change_at g j xs) (i ∷ names)
          ≤ product_of_ranges xs (i ∷ names)
      by rest (inl k) h =
          both_smaller (range_at (change_at f j xs) i) (range_at (change_at g j xs) i) (range_at xs i)
          (product_of_ranges (change_at f j xs) names) (product_of_ranges (change_at g j xs) names)
          (product_of_ranges xs names) k.1 (below_smaller names) (above_smaller names)
      by rest (inr k) (inl e) = absurd (k.0 (sym e))
      by rest (inr k) (inr h) =
          rest_splits (range_at (change_at f j xs) i) (range_at (change_at g j xs) i) (range_at xs i)
          (product_of_ranges (change_at f j xs) names) (product_of_ranges (change_at g j xs) names)
          (product_of_ranges xs names) k.1.0 k.1.1 (rest h)

-- the two boxes of a branch at a number that isn't whole: their products of ranges sum to at most that of the box
pub products_split : (x : Fraction) → (IsWhole x → ⊥) → (xs : List Variable) (names : List ℕ) (j : ℕ) → IsIn j names →
    T (is_bounded xs j) → lower_at xs j ≤ℚ x → x ≤ℚ upper_at xs j →
    product_of_ranges (change_at (tightened true (floor x)) j xs) names
    + product_of_ranges (change_at (tightened false (floor x +ℤ pos 1)) j xs) names ≤ product_of_ranges xs names
products_split x broken xs names j within some h g =
    product_splits (tightened true (floor x)) (tightened false (floor x +ℤ pos 1)) xs j
    (each_splits (tightened true (floor x)) (tightened false (floor x +ℤ pos 1)) xs j
    (here_splits x broken xs j some h g))
    names within
