-- Ranges of the named variables: a plan's number stands between its bounds, boxes keep that bounds are declared, and a
-- branch splits a range into two.
use Rattle.std.specs.Prelude.{◌<◌, ℕ, zero, suc, ◌+◌, ℤ, Bool, true, false, ◌&&◌, T, List, [], ◌∷◌, length, Option, Some, None}
use Rattle.std.proofs.Common.{sym, subst, inl, inr, arith}
use Rattle.rob_algebra.specs.Fraction.{Fraction, of_int, ◌≤ℚ◌}
use Rattle.rob_meaning.specs.Places.{Each, 0ℚ, at, EachFrom}
use Rattle.rob_meaning.specs.RobustModel.{Variable}
use Rattle.rob_meaning.specs.UncertaintySet.{KeepsBounds}
use Rattle.rob_reach.specs.Boxes.{lesser, greater, change_at, tightened}
use Rattle.rob_reach.specs.Ranges.{has_both, is_bounded, are_bounded}
use Rattle.rob_reach.specs.Trees.{IsIn}

-- ---- the declared bounds of a variable
abbrev pub declared : Option Fraction → Fraction
declared None = 0ℚ
declared (Some b) = b

abbrev pub lower_at : List Variable → ℕ → Fraction
lower_at [] j = 0ℚ
lower_at (x ∷ xs) zero = declared x.lower
lower_at (x ∷ xs) (suc j) = lower_at xs j

abbrev pub upper_at : List Variable → ℕ → Fraction
upper_at [] j = 0ℚ
upper_at (x ∷ xs) zero = declared x.upper
upper_at (x ∷ xs) (suc j) = upper_at xs j

pub both_left : (a b : Bool) → T (a && b) → T a
both_left true b h = tt
both_left false b h = absurd h

pub both_right : (a b : Bool) → T (a && b) → T b
both_right true b h = h
both_right false b h = absurd h

pub both_true : (a b : Bool) → T a → T b → T (a && b)
both_true true b h k = k
both_true false b h k = absurd h

pub bounded_in : (xs : List Variable) (names : List ℕ) (j : ℕ) → IsIn j names
    → T (are_bounded xs names) → T (is_bounded xs j)
bounded_in xs [] j h k = absurd h
bounded_in xs (i ∷ names) j (inl e) k =
    subst (λ n. T (is_bounded xs n)) (sym e) (both_left (is_bounded xs i) (are_bounded xs names) k)
bounded_in xs (i ∷ names) j (inr h) k = bounded_in xs names j h (both_right (is_bounded xs i) (are_bounded xs names) k)

between_declared : (l b : Option Fraction) (x : Fraction) → T (has_both l b) → KeepsBounds l b x →
    (declared l ≤ℚ x) × (x ≤ℚ declared b)
between_declared None b x h k = absurd h
between_declared (Some l) None x h k = absurd h
between_declared (Some l) (Some b) x h k = k

-- the number of a bounded variable stands between its bounds
pub number_between : (plan : List Fraction) (first : ℕ) (xs : List Variable) (j : ℕ) → T (is_bounded xs j) →
    EachFrom first (λ k (x : Variable). KeepsBounds x.lower x.upper (at plan k)) xs →
    (lower_at xs j ≤ℚ at plan (first + j)) × (at plan (first + j) ≤ℚ upper_at xs j)
number_between plan first [] j h k = absurd h
number_between plan first (x ∷ xs) zero h k =
    subst (λ n. (declared x.lower ≤ℚ at plan n) × (at plan n ≤ℚ declared x.upper)) (omega arith)
    (between_declared x.lower x.upper (at plan first) h k.0)
number_between plan first (x ∷ xs) (suc j) h k =
    subst (λ n. (lower_at xs j ≤ℚ at plan n) × (at plan n ≤ℚ upper_at xs j)) (omega arith)
    (number_between plan (suc first) xs j h k.1)

-- ---- boxes keep that bounds are declared
tightened_both : (upper : Bool) (k : ℤ) (x : Variable) → T (has_both x.lower x.upper) →
    T (has_both (tightened upper k x).lower (tightened upper k x).upper)
tightened_both true k x h = by x.lower x.upper h
  where
    by : (l b : Option Fraction) → T (has_both l b) → T (has_both l (Some (lesser b (of_int k))))
    by None b h = absurd h
    by (Some l) b h = tt
tightened_both false k x h = by x.lower x.upper h
  where
    by : (l b : Option Fraction) → T (has_both l b) → T (has_both (Some (greater l (of_int k))) b)
    by None b h = absurd h
    by (Some l) b h = h

pub change_bounded : (upper : Bool) (k : ℤ) (j : ℕ) (xs : List Variable) (i : ℕ) → T (is_bounded xs i) →
    T (is_bounded (change_at (tightened upper k) j xs) i)
change_bounded upper k j [] i h = absurd h
change_bounded upper k zero (x ∷ xs) zero h = tightened_both upper k x h
change_bounded upper k zero (x ∷ xs) (suc i) h = h
change_bounded upper k (suc j) (x ∷ xs) zero h = h
change_bounded upper k (suc j) (x ∷ xs) (suc i) h = change_bounded upper k j xs i h

pub changes_bounded : (upper : Bool) (k : ℤ) (j : ℕ) (xs : List Variable) (names : List ℕ) → T (are_bounded xs names) →
    T (are_bounded (change_at (tightened upper k) j xs) names)
changes_bounded upper k j xs [] h = tt
changes_bounded upper k j xs (i ∷ names) h =
    both_true (is_bounded (change_at (tightened upper k) j xs) i)
    (are_bounded (change_at (tightened upper k) j xs) names)
    (change_bounded upper k j xs i (both_left (is_bounded xs i) (are_bounded xs names) h))
    (changes_bounded upper k j xs names (both_right (is_bounded xs i) (are_bounded xs names) h))

-- ---- what is bounded exists
bounded_inside : (xs : List Variable) (j : ℕ) → T (is_bounded xs j) → j < length xs
bounded_inside [] j h = absurd h
bounded_inside (x ∷ xs) zero h = omega arith
bounded_inside (x ∷ xs) (suc j) h = omega (arith, bounded_inside xs j h)

pub all_inside : (xs : List Variable) (names : List ℕ) → T (are_bounded xs names) → Each (λ j. j < length xs) names
all_inside xs [] h = tt
all_inside xs (i ∷ names) h = (
  bounded_inside xs i (both_left (is_bounded xs i) (are_bounded xs names) h),
  all_inside xs names (both_right (is_bounded xs i) (are_bounded xs names) h),
)
