-- Tests that decide facts of numbers and lists, for the worked models.
use Rattle.std.proofs.Common.{ap, sym, ap₂, subst, refl, arith, Ordering, Less, Equal, Greater}
use Rattle.std.proofs.lemmas.Bool.{eqb-true, leb-true, ltb-true}
use Rattle.std.specs.Ordering.{MatchOrdering}
use Rattle.std.specs.Prelude.{◌≡◌, ◌<◌, ◌≤◌, ℕ, zero, suc, Bool, true, false, eqb, leb, ltb, get_or, ◌≢◌, ◌+◌, List, [], ◌∷◌, length, Option, Some, None}
use Rattle.rob_algebra.specs.Fraction.{Fraction, ◌<ℚ◌, ◌≤ℚ◌}
use Rattle.rob_algebra.specs.FractionLists.{AllNonneg}
use Rattle.rob_algebra.specs.FractionOrder.{cmp_ℚ, cmp_ℚ-ranks}
use Rattle.rob_algebra.specs.FractionOrderLaws as Q
use Rattle.rob_meaning.specs.Places.{0ℚ, Each, EachFrom}

-- the test found the fact
abbrev pub Found : {A : Type 0} → Option A → Type 0
Found None = ⊥
Found (Some x) = Unit {0}

abbrev pub found : {A : Type 0} (o : Option A) → Found o → A
found None h = absurd h
found (Some x) h = x

abbrev pub both : {A B : Type 0} → Option A → Option B → Option (A × B)
both None b = None
both (Some x) None = None
both (Some x) (Some y) = Some (x, y)

abbrev pub so : {A B : Type 0} → (A → B) → Option A → Option B
so f None = None
so f (Some x) = Some (f x)

-- ---- numbers
-- the fact that follows where the test is true
abbrev pub decided : {A : Type 0} (b : Bool) → (b ≡ true → A) → Option A
decided true f = Some (f refl)
decided false f = None

abbrev pub test_below : (a b : ℕ) → Option (a < b)
test_below a b = decided (ltb a b) (ltb-true a b)

abbrev pub test_at_most : (a b : ℕ) → Option (a ≤ b)
test_at_most a b = decided (leb a b) (leb-true a b)

abbrev pub test_count : (a b : ℕ) → Option (a ≡ b)
test_count a b = decided (eqb a b) (eqb-true a b)

pub below_differs : (a b : ℕ) → ltb a b ≡ true → a ≢ b
below_differs a b e same = apart a b (ltb-true a b e) same
  where
    apart : (a b : ℕ) → a < b → a ≡ b → ⊥
    apart a b h e = omega arith

abbrev pub either : {A : Type 0} → Option A → Option A → Option A
either None o = o
either (Some x) o = Some x

-- two names differ, by the byte at a place, the names' ends counting as 0
abbrev pub test_differ : (a b : List ℕ) → Option (a ≢ b)
test_differ a b = differ_from 0 (length a + length b)
  where
    below : (k : ℕ) → Option (a ≢ b)
    below k =
        decided (ltb (get_or a k 0) (get_or b k 0))
        (λ e same. below_differs (get_or a k 0) (get_or b k 0) e (ap (λ xs. get_or xs k 0) same))

    above : (k : ℕ) → Option (a ≢ b)
    above k =
        decided (ltb (get_or b k 0) (get_or a k 0))
        (λ e same. below_differs (get_or b k 0) (get_or a k 0) e (sym (ap (λ xs. get_or xs k 0) same)))

    differ_from : ℕ → ℕ → Option (a ≢ b)
    differ_from k zero = None
    differ_from k (suc n) = either (either (below k) (above k)) (differ_from (suc k) n)

-- each number below n has the property
abbrev pub test_numbers : (n : ℕ) (P : ℕ → Type 0) → ((i : ℕ) → Option (P i)) → Option ((i : ℕ) → i < n → P i)
test_numbers zero P test = Some (λ i h. absurd (omega arith))
test_numbers (suc n) P test =
    so (λ h. first_and_rest n P h.0 h.1) (both (test zero) (test_numbers n (λ i. P (suc i)) (λ i. test (suc i))))
  where
    first_and_rest : (n : ℕ) (P : ℕ → Type 0) → P zero → ((i : ℕ) → i < n → P (suc i)) → (i : ℕ) → i < suc n → P i
    first_and_rest n P p h zero k = p
    first_and_rest n P p h (suc i) k = h i (omega arith)

abbrev le_ranked : (x y : Fraction) (r : Ordering) → MatchOrdering r (x <ℚ y) (x ≡ y) (y <ℚ x) → Option (x ≤ℚ y)
le_ranked x y Less h = Some (Q.le_of_lt_ℚ x y h)
le_ranked x y Equal h = Some (subst (λ z. x ≤ℚ z) h (Q.le_refl_ℚ x))
le_ranked x y Greater h = None

abbrev lt_ranked : (x y : Fraction) (r : Ordering) → MatchOrdering r (x <ℚ y) (x ≡ y) (y <ℚ x) → Option (x <ℚ y)
lt_ranked x y Less h = Some h
lt_ranked x y Equal h = None
lt_ranked x y Greater h = None

abbrev same_ranked : (x y : Fraction) (r : Ordering) → MatchOrdering r (x <ℚ y) (x ≡ y) (y <ℚ x) → Option (x ≡ y)
same_ranked x y Less h = None
same_ranked x y Equal h = Some h
same_ranked x y Greater h = None

abbrev pub test_le : (x y : Fraction) → Option (x ≤ℚ y)
test_le x y = le_ranked x y (cmp_ℚ x y) (cmp_ℚ-ranks x y)

abbrev pub test_lt : (x y : Fraction) → Option (x <ℚ y)
test_lt x y = lt_ranked x y (cmp_ℚ x y) (cmp_ℚ-ranks x y)

abbrev pub test_same : (x y : Fraction) → Option (x ≡ y)
test_same x y = same_ranked x y (cmp_ℚ x y) (cmp_ℚ-ranks x y)

-- ---- lists
abbrev pub test_each : {A : Type 0} (P : A → Type 0) → ((x : A) → Option (P x)) → (xs : List A) → Option (Each P xs)
test_each P test [] = Some tt
test_each P test (x ∷ xs) = both (test x) (test_each P test xs)

abbrev pub test_nonnegative : (xs : List Fraction) → Option (AllNonneg xs)
test_nonnegative [] = Some tt
test_nonnegative (x ∷ xs) = both (test_le 0ℚ x) (test_nonnegative xs)

abbrev pub test_list : (xs ys : List Fraction) → Option (xs ≡ ys)
test_list [] [] = Some refl
test_list [] (y ∷ ys) = None
test_list (x ∷ xs) [] = None
test_list (x ∷ xs) (y ∷ ys) =
    so (λ h. ap₂ (λ (z : Fraction) (zs : List Fraction). z ∷ zs) h.0 h.1) (both (test_same x y) (test_list xs ys))

abbrev pub test_each_from : {A : Type 0} (P : ℕ → A → Type 0) → ((i : ℕ) (x : A) → Option (P i x))
    → (k : ℕ) (xs : List A) →
    Option (EachFrom k P xs)
test_each_from P test k [] = Some tt
test_each_from P test k (x ∷ xs) = both (test k x) (test_each_from P test (suc k) xs)
