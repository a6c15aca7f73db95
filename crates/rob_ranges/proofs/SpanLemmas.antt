-- The settings of a span: what holds of each of some settings, and a form between the least and the greatest values.
use Rattle.std.proofs.Common.{◌≡◌, ◌<◌, ◌≤◌, ◌+◌, ℕ, zero, suc, Bool, true, false, List, [], ◌∷◌, ◌++◌, length, get_or, take, sym, subst, arith}
use Rattle.std.specs.Prelude.{ℤ, pos, negsuc, ◌+ℤ◌, ◌*ℤ◌, ◌≤ℤ◌, int_lt, if◌then◌else◌}
use Rattle.std.proofs.lemmas.Int.{ints}
use Rattle.rob_algebra.specs.Integer.{neg-mul}
use Rattle.rob_algebra.specs.IntegerOrder.{mul_le_mul}
use Rattle.rob_index.proofs.Faults.NestLemmas.{lt_from}
use Rattle.rob_ranges.specs.declared.digits.Wide.{Wide}
use Rattle.rob_ranges.specs.declared.short.Short.{Short}
use Rattle.rob_ranges.specs.declared.span.Span.{Span}
use Rattle.rob_ranges.specs.DigitLists.{wide_of}
use Rattle.rob_ranges.specs.Shorts.{first_of, second_of, short_value}
use Rattle.rob_ranges.specs.Spans.{Every, IsIn}

-- ---- what holds of each
module _ {A : Type 0} (P : A → Type 0) where
  pub every_append : (xs ys : List A) → Every P xs → Every P ys → Every P (xs ++ ys)
  every_append [] ys h k = k
  every_append (x ∷ xs) ys h k = (h.0, every_append xs ys h.1 k)

  pub every_both : (all xs ys : List A) → all ≡ xs ++ ys → Every P xs → Every P ys → Every P all
  every_both all xs ys is h k = subst (Every P) (sym is) (every_append xs ys h k)

  every_front : (xs ys : List A) → Every P (xs ++ ys) → Every P xs
  every_front [] ys h = tt
  every_front (x ∷ xs) ys h = (h.0, every_front xs ys h.1)

  every_behind : (xs ys : List A) → Every P (xs ++ ys) → Every P ys
  every_behind [] ys h = h
  every_behind (x ∷ xs) ys h = every_behind xs ys h.1

  pub front_of : (all xs ys : List A) → all ≡ xs ++ ys → Every P all → Every P xs
  front_of all xs ys is h = every_front xs ys (subst (Every P) is h)

  pub behind_of : (all xs ys : List A) → all ≡ xs ++ ys → Every P all → Every P ys
  behind_of all xs ys is h = every_behind xs ys (subst (Every P) is h)

  pub every_at : (xs : List A) (i : ℕ) (x : A) → i < length xs → x ≡ get_or xs i x → Every P xs → P x
  every_at [] i x h is e = absurd (omega (arith, h))
  every_at (y ∷ ys) zero x h is e = subst P (sym is) e.0
  every_at (y ∷ ys) (suc i) x h is e = every_at ys i x (omega (arith, h)) is e.1

  -- the first of some, one after the other
  one_taken : (xs : List A) (i : ℕ) (x : A) → i < length xs → x ≡ get_or xs i x → Every P (take i xs) → P x
      → Every P (take (suc i) xs)
  one_taken [] i x h is e p = absurd (omega (arith, h))
  one_taken (y ∷ ys) zero x h is e p = (subst P is p, tt)
  one_taken (y ∷ ys) (suc i) x h is e p = (e.0, one_taken ys i x (omega (arith, h)) is e.1 p)

  pub every_taken : (xs : List A) (i : ℕ) (x : A) → i < length xs → x ≡ get_or xs i x → Every P (take i xs) → P x
      → Every P (take (i + 1) xs)
  every_taken xs i x h is e p =
      let next : suc i ≡ i + 1 = omega arith in
      subst (λ (n : ℕ). Every P (take n xs)) next (one_taken xs i x h is e p)

  pub every_all : (xs : List A) (i : ℕ) → length xs ≤ i → Every P (take i xs) → Every P xs
  every_all [] i h e = tt
  every_all (y ∷ ys) zero h e = absurd (omega (arith, h))
  every_all (y ∷ ys) (suc i) h e = (e.0, every_all ys i (omega (arith, h)) e.1)

pub every_more : {A : Type 0} (P Q : A → Type 0) → ((x : A) → P x → Q x) → (xs : List A) → Every P xs → Every Q xs
every_more P Q f [] h = tt
every_more P Q f (x ∷ xs) h = (f x h.0, every_more P Q f xs h.1)

-- ---- the end that makes a product greatest
far_most : (a x : ℤ) (b : Bool) (l g : Wide) → b ≡ int_lt a (pos 0) → wide_of l ≤ℤ x → x ≤ℤ wide_of g
    → (a *ℤ x) ≤ℤ (a *ℤ wide_of (if b then l else g))
far_most (pos n) x true l g is h k = absurd (omega (arith, ints, lt_from (pos n) (pos 0) (sym is)))
far_most (pos n) x false l g is h k = mul_le_mul (pos n) x (wide_of g) (omega (arith, ints)) k
far_most (negsuc n) x true l g is h k =
    let m = mul_le_mul (pos (suc n)) (wide_of l) x (omega (arith, ints)) h in
    let a = neg-mul (pos (suc n)) (wide_of l) in
    let b = neg-mul (pos (suc n)) x in
    omega (arith, ints, m, a, b)
far_most (negsuc n) x false l g is h k = cc

-- a form at the ends that make it greatest
pub most_is : (f : Short) (span : Span) (vs : List ℤ) (b c : Bool) (first second : Wide) → IsIn span vs
    → b ≡ int_lt f.first (pos 0) → c ≡ int_lt f.second (pos 0)
    → first ≡ (if b then span.least.first else span.greatest.first)
    → second ≡ (if c then span.least.second else span.greatest.second)
    → short_value f vs ≤ℤ ((wide_of f.constant +ℤ (f.first *ℤ wide_of first)) +ℤ (f.second *ℤ wide_of second))
most_is f span vs b c first second within is_b is_c p q =
    let h = far_most f.first (first_of vs) b span.least.first span.greatest.first is_b within.first_least
    within.first_greatest in
    let k = far_most f.second (second_of vs) c span.least.second span.greatest.second is_c within.second_least
    within.second_greatest in
    let m : (f.first *ℤ first_of vs) ≤ℤ (f.first *ℤ wide_of first) =
    subst (λ (w : Wide). (f.first *ℤ first_of vs) ≤ℤ (f.first *ℤ wide_of w)) (sym p) h in
    let n : (f.second *ℤ second_of vs) ≤ℤ (f.second *ℤ wide_of second) =
    subst (λ (w : Wide). (f.second *ℤ second_of vs) ≤ℤ (f.second *ℤ wide_of w)) (sym q) k in
    omega (arith, ints, m, n)

-- ---- a span that reaches further down and up
pub wider : (a b : Span) (vs : List ℤ) → wide_of b.least.first ≤ℤ wide_of a.least.first
    → wide_of b.least.second ≤ℤ wide_of a.least.second → wide_of a.greatest.first ≤ℤ wide_of b.greatest.first
    → wide_of a.greatest.second ≤ℤ wide_of b.greatest.second → IsIn a vs → IsIn b vs
wider a b vs h k m n within = record {
  first_least = omega (arith, ints, h, within.first_least);
  first_greatest = omega (arith, ints, m, within.first_greatest);
  second_least = omega (arith, ints, k, within.second_least);
  second_greatest = omega (arith, ints, n, within.second_greatest);
}
