-- A ray's least common denominator, and its numbers times it, as code computes them too.
use Rattle.std.proofs.Common.{◌≡◌, ◌≢◌, ◌⊎◌, inl, inr, ℕ, zero, suc, ◌-◌, ◌*◌, ◌/◌, ◌<◌, ◌≤◌, ◌^◌, List, [], ◌∷◌, map, length, refl, sym, ap, ap₂, ◌∙◌, subst, arith, Bool, true, false, to_z, of_z, w64, SFits}
use Rattle.std.specs.Int.{w128}
use Rattle.std.proofs.lemmas.Int.{ints, unsigned_abs-mul}
use Rattle.std.proofs.Math.Nat.{mul-le-mul_left, mul-le-mul_right, mul_comm}
use lib.IntN.{ℤ, pos, negsuc, nat_abs, ◌*ℤ◌}
use lib.Signed.{◌<ℤ◌}
use Rattle.rob_algebra.specs.Fraction.{Fraction}
use Rattle.rob_algebra.specs.FractionLaws.{ℚ-one-mul}
use Rattle.rob_algebra.specs.FractionOrder.{eq_ℚ, eq_ℚ-decides}
use Rattle.rob_algebra.specs.Width.{IsWideWhole}
use Rattle.rob_algebra.proofs.Signs.{zero_num}
use Rattle.rob_linear.specs.Vectors as V
use Rattle.rob_meaning.specs.Clearing.{denominator, MakesWhole, whole_at}
use Rattle.rob_meaning.specs.Places.{0ℚ, at, Each}
use Rattle.rob_meaning.proofs.Lists.LeastLemmas.{denominator_least}
use Rattle.rob_number.proofs.CastLemmas.{fits_small, seen_up, seen_within}
use Rattle.rob_runs.specs.Cuts.{wholes}
use Rattle.rob_runs.specs.Spots.{SomeWide}
use Rattle.rob_runs.proofs.Clearing.DenominatorLemmas.{denominator_bounded}
use Rattle.rob_runs.proofs.Clearing.WholeLemmas.{length-wholes}
use Rattle.rob_sets.specs.FirstWide.{Some_of}
use Rattle.rob_sets.proofs.WholeRows.MachineProducts.{product_fits, product_seen, product_size}
use Rattle.rob_worst.proofs.StopLemmas.{some_at}

-- all numbers are 0, or some is not
zero_or_some : (qs : List Fraction) → Each (λ (q : Fraction). q ≡ 0ℚ) qs
    ⊎ ((k : ℕ) × (k < length qs) × ((at qs k).num ≢ pos 0))
zero_or_some [] = inl tt
zero_or_some (q ∷ qs) = by (eq_ℚ q 0ℚ) (eq_ℚ-decides q 0ℚ).0 (eq_ℚ-decides q 0ℚ).1 (zero_or_some qs)
  where
    by : (v : Bool) → (v ≡ true → q ≡ 0ℚ) → (q ≡ 0ℚ → v ≡ true)
        → (Each (λ (q : Fraction). q ≡ 0ℚ) qs ⊎ ((k : ℕ) × (k < length qs) × ((at qs k).num ≢ pos 0)))
        → (Each (λ (q : Fraction). q ≡ 0ℚ) (q ∷ qs) ⊎ ((k : ℕ) × (k < suc (length qs)) × ((at (q ∷ qs) k).num ≢ pos 0)))
    by true d e (inl h) = inl (d refl, h)
    by true d e (inr h) = inr (suc h.0, omega (arith, h.1), h.2)
    by false d e h = inr (zero, omega arith, λ n. let f : false ≡ true = e (zero_num q n) in cc)

-- 1 makes zeros whole
zeros_whole : (qs : List Fraction) → Each (λ (q : Fraction). q ≡ 0ℚ) qs → Each (MakesWhole 1) qs
zeros_whole [] h = tt
zeros_whole (q ∷ qs) h = ((pos 0, ℚ-one-mul q ∙ h.0), zeros_whole qs h.1)

le_or : (a b : ℕ) → (a < b) ⊎ (b ≤ a)
le_or a zero = inr (omega arith)
le_or zero (suc b) = inl (omega arith)
le_or (suc a) (suc b) = elim (le_or a b) [ inl l ↦ inl (omega arith) | inr l ↦ inr (omega arith) ]

over : (limit n : ℕ) → (n ≤ limit → ⊥) → limit < n
over limit n h = elim (le_or limit n) [ inl l ↦ l | inr l ↦ absurd (h l) ]

-- a great denominator makes some number wide
pub denominator_wide : (limit : ℕ) (qs : List Fraction) → Each (λ (q : Fraction). q.den ≤ limit) qs → 1 ≤ limit
    → limit * limit < denominator qs → SomeWide limit (wholes qs)
denominator_wide limit qs small one wide =
    elim (zero_or_some qs) [
      | inl z ↦
          let l : denominator qs ≤ 1 = denominator_least qs 1 (omega arith) (zeros_whole qs z) in
          let s : limit * 1 ≤ limit * limit = mul-le-mul_left limit one in
          absurd (omega arith)
      | inr n ↦ at_place n.0 n.1 n.2
    ]
  where
    small_at : (xs : List Fraction) → Each (λ (q : Fraction). q.den ≤ limit) xs → (k : ℕ) → k < length xs
        → (at xs k).den ≤ limit
    small_at [] h k l = absurd (omega arith)
    small_at (x ∷ xs) h zero l = h.0
    small_at (x ∷ xs) h (suc k) l = small_at xs h.1 k (omega arith)

    at_place : (k : ℕ) → k < length qs → (at qs k).num ≢ pos 0 → SomeWide limit (wholes qs)
    at_place k l n =
        let e : length (wholes qs) ≡ length qs = length-wholes qs in (
          k,
          omega arith,
          over limit (nat_abs (V.at (wholes qs) k)) (λ h.
              let d : denominator qs ≤ limit * (at qs k).den = denominator_bounded limit qs k l n h in
              let s : limit * (at qs k).den ≤ limit * limit = mul-le-mul_left limit (small_at qs small k l) in
              omega arith),
        )

pub wide_at_denominator : (limit d : ℕ) (qs : List Fraction) → d ≡ denominator qs
    → Some_of (λ q. IsWideWhole limit (whole_at d q)) qs → SomeWide limit (wholes qs)
wide_at_denominator limit d qs e w = some_at limit (denominator qs) qs
    (subst (λ (n : ℕ). Some_of (λ q. IsWideWhole limit (whole_at n q)) qs) e w)

-- the denominators of exact numbers
pub each_den : {N : Type 0} (value : N → Fraction) (limit : ℕ) → ((x : N) → (value x).den ≤ limit) → (xs : List N)
    → Each (λ (q : Fraction). q.den ≤ limit) (map value xs)
each_den value limit h [] = tt
each_den value limit h (x ∷ xs) = (h x, each_den value limit h xs)

pub square_small : (limit : ℕ) → limit ≤ 2 ^ 62 - 1 → limit * limit ≤ 2 ^ 124
square_small limit h =
    let a : limit * limit ≤ limit * (2 ^ 62 - 1) = mul-le-mul_left limit h in
    let b : limit * (2 ^ 62 - 1) ≡ (2 ^ 62 - 1) * limit = mul_comm limit (2 ^ 62 - 1) in
    let c : (2 ^ 62 - 1) * limit ≤ (2 ^ 62 - 1) * (2 ^ 62 - 1) = mul-le-mul_left (2 ^ 62 - 1) h in
    omega arith

-- ---- a number times the denominator, as code computes it in 128 bits
natural_wide : (n : ℕ) → n < 2 ^ 62 → to_z w128 n ≡ pos n
natural_wide n h = omega (arith, ints)

pub natural_fits : (n : ℕ) → n < 2 ^ 62 → SFits w128 (pos n)
natural_fits n h = omega (arith, ints)

module _ (a : ℤ) (b : ℕ) (f : SFits w64 a) (left : nat_abs a < 2 ^ 62) (right : b < 2 ^ 62) where
  -- the natural number as a factor of either kind
  same : to_z w128 (of_z w128 (to_z w64 (of_z w64 (pos b)))) ≡ to_z w128 b
  same = seen_up (pos b) (fits_small (pos b) right) ∙ sym (natural_wide b right)

  abbrev times : ℤ → ℤ
  times y = to_z w128 (of_z w128 (to_z w64 (of_z w64 a))) *ℤ y

  pub multiple_fits : SFits w128 (times (to_z w128 b))
  multiple_fits =
      subst (λ y. SFits w128 (times y)) same (product_fits a (pos b) f (fits_small (pos b) right) left right)

  pub multiple_seen : to_z w128 (of_z w128 (times (to_z w128 b))) ≡ a *ℤ pos b
  multiple_seen =
      subst (λ y. to_z w128 (of_z w128 (times y)) ≡ a *ℤ pos b) same
      (product_seen a (pos b) f (fits_small (pos b) right) left right)

  pub multiple_size : nat_abs (to_z w128 (of_z w128 (times (to_z w128 b)))) < 2 ^ 124
  multiple_size =
      subst (λ y. nat_abs (to_z w128 (of_z w128 (times y))) < 2 ^ 124) same
      (product_size a (pos b) f (fits_small (pos b) right) left right)

some_size : (num : ℤ) → (of_z w64 num ≡ 0 → ⊥) → 1 ≤ nat_abs num
some_size (pos zero) h = absurd (h refl)
some_size (pos (suc n)) h = omega arith
some_size (negsuc n) h = omega arith

module _ (limit : ℕ) (high : limit ≤ 2 ^ 62 - 1) where
  pub still_positive : (den : ℤ) → nat_abs den ≤ limit → pos 0 <ℤ den → pos 0 <ℤ to_z w64 (of_z w64 den)
  still_positive den l h = subst (λ z. pos 0 <ℤ z) (sym (seen_within limit den high l)) h

  module _ (common : ℕ) (q : Fraction) (num : ℤ) (num_is : num ≡ q.num) (num_low : nat_abs num ≤ limit) where
    none : (n : ℕ) → pos 0 *ℤ pos n ≡ pos 0
    none n = omega (arith, ints)

    -- a zero is whole
    pub zero_whole : of_z w64 num ≡ 0 → (pos 0 ≡ whole_at common q) × (0 ≤ limit)
    zero_whole e =
        let z : q.num ≡ pos 0 =
        sym num_is ∙ sym (seen_within limit num high num_low) ∙ ap (to_z w64) e in
        (sym (ap (λ x. x *ℤ pos (common / q.den)) z ∙ none (common / q.den)), omega arith)

    module _ (times : ℕ) (den : ℤ) (den_is : den ≡ pos q.den) (den_low : nat_abs den ≤ limit)
        (is : times ≡ common / nat_abs (to_z w64 (of_z w64 den))) where
      times_is : times ≡ common / q.den
      times_is = is ∙ ap (λ z. common / nat_abs z) (seen_within limit den high den_low ∙ den_is)

      -- where the denominator goes in too often, the number is wide
      pub wide_times : (of_z w64 num ≡ 0 → ⊥) → limit < times → IsWideWhole limit (whole_at common q)
      wide_times some wide =
          let one : 1 ≤ nat_abs q.num = subst (λ z. 1 ≤ nat_abs z) num_is (some_size num some) in
          let l : 1 * times ≤ nat_abs q.num * times = mul-le-mul_right times one in
          let e : nat_abs (q.num *ℤ pos times) ≡ nat_abs q.num * times = unsigned_abs-mul q.num (pos times) in
          subst (λ n. limit < nat_abs (q.num *ℤ pos n)) times_is (omega arith)

      pub whole_number : (product : ℤ) → product ≡ to_z w64 (of_z w64 num) *ℤ pos times
          → product ≡ whole_at common q
      whole_number product e =
          e ∙ ap₂ ◌*ℤ◌ (seen_within limit num high num_low ∙ num_is) (ap pos times_is)
