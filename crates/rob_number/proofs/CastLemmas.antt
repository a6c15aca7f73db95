-- Machine numbers of few enough bits are what they are read as.
use Rattle.std.proofs.Common.{◌≡◌, ℕ, ◌*◌, ◌%◌, ◌-◌, ◌^◌, ◌<◌, ◌≤◌, ℤ, pos, negsuc, zero, suc, w32, neg_ℤ, ◌-ℤ◌, ◌*ℤ◌, nat_abs, arith, sym, ◌∙◌, ap, ap₂, subst, to_z, of_z, w64, SFits, to_z-of_z, nat_eq, eqb-true, eq-eqb, pow_mono, leb-true, leb-false, Bool, true, false, ◌&&◌, cond, ◌⊎◌, inl, inr, refl}
use Rattle.std.specs.Prelude.{nat_le}
use Rattle.std.specs.Int.{w128}
use Rattle.std.specs.Bool.{Decides}
use Rattle.std.proofs.lemmas.Int.{ints}
use Rattle.std.proofs.lemmas.Nat.{pow_pos}
use Rattle.rob_algebra.specs.Fraction.{sign_of}
use Rattle.rob_number.specs.Lowest.{limit_of, limit_high}

pub within_limit : (B n : ℕ) → n ≤ limit_of B → n < 2 ^ 62
within_limit B n h = omega (arith, limit_high B)

pub fits_small : (z : ℤ) → nat_abs z < 2 ^ 62 → SFits w64 z
fits_small z h = omega (arith, ints)

pub seen : (z : ℤ) → nat_abs z < 2 ^ 62 → to_z w64 (of_z w64 z) ≡ z
seen z h = to_z-of_z (fits_small z h)

-- a number within a limit is read as it is
pub seen_within : (limit : ℕ) (z : ℤ) → limit ≤ 2 ^ 62 - 1 → nat_abs z ≤ limit → to_z w64 (of_z w64 z) ≡ z
seen_within limit z high h = seen z (omega arith)

-- a limit as code reads it
pub limit_seen : (bound : ℤ) (limit : ℕ) → bound ≡ pos limit → limit ≤ 2 ^ 62 - 1
    → nat_abs (to_z w64 (of_z w64 bound)) ≡ limit
limit_seen bound limit is high =
    ap (λ (z : ℤ). nat_abs (to_z w64 (of_z w64 z))) is
    ∙ ap nat_abs (seen_within limit (pos limit) high (omega arith))

pub seen_small : (z : ℤ) → nat_abs z < 2 ^ 62 → nat_abs (to_z w64 (of_z w64 z)) < 2 ^ 62
seen_small z h = subst (λ x. nat_abs x < 2 ^ 62) (sym (seen z h)) h

pub seen_wide : (z : ℤ) → nat_abs z < 2 ^ 126 → to_z w128 (of_z w128 z) ≡ z
seen_wide z h = omega (arith, ints)

pub negated_fits : (z : ℤ) → nat_abs z < 2 ^ 62 → SFits w64 (pos 0 -ℤ to_z w64 (of_z w64 z))
negated_fits z h = omega (arith, ints)

pub negated_seen : (z : ℤ) → nat_abs z < 2 ^ 62 → to_z w64 (of_z w64 (pos 0 -ℤ to_z w64 (of_z w64 z))) ≡ neg_ℤ z
negated_seen z h = omega (arith, ints)

-- a number of 128 bits that has few enough bits for 64
pub seen_down : (z : ℤ) → SFits w128 z → nat_abs z < 2 ^ 62 → to_z w64 (of_z w64 (to_z w128 (of_z w128 z))) ≡ z
seen_down z f h = ap (λ x. to_z w64 (of_z w64 x)) (to_z-of_z f) ∙ seen z h

pub natural_seen : (n : ℕ) → n < 2 ^ 62 → to_z w64 n ≡ pos n
natural_seen n h = omega (arith, ints)

-- `==` on two small numbers
pub bits_decide : (a b : ℤ) → nat_abs a < 2 ^ 62 → nat_abs b < 2 ^ 62
    → Decides (nat_eq (of_z w64 a) (of_z w64 b)) (a ≡ b)
bits_decide a b h k = (
  λ e. sym (seen a h) ∙ ap (to_z w64) (eqb-true (of_z w64 a) (of_z w64 b) e) ∙ seen b k,
  λ e. eq-eqb (of_z w64 a) (of_z w64 b) (ap (of_z w64) e),
)

-- ---- 2^B - 1, by a shift
pub shifted : (B : ℕ) → B ≤ 62 → to_z w64 (1 * 2 ^ B % 18446744073709551616) ≡ pos (2 ^ B)
shifted B h =
    let low : 0 < 2 ^ B = pow_pos B in
    let high : 2 ^ B ≤ 2 ^ 62 = pow_mono h in
    omega (arith, ints)

pub shifted_fits : (B : ℕ) → B ≤ 62 → SFits w64 (to_z w64 (1 * 2 ^ B % 18446744073709551616) -ℤ pos 1)
shifted_fits B h =
    let low : 0 < 2 ^ B = pow_pos B in
    let high : 2 ^ B ≤ 2 ^ 62 = pow_mono h in
    omega (arith, ints, shifted B h)

pub shifted_less : (B : ℕ) → B ≤ 62
    → to_z w64 (of_z w64 (to_z w64 (1 * 2 ^ B % 18446744073709551616) -ℤ pos 1)) ≡ pos (2 ^ B - 1)
shifted_less B h =
    let low : 0 < 2 ^ B = pow_pos B in
    let high : 2 ^ B ≤ 2 ^ 62 = pow_mono h in
    to_z-of_z (shifted_fits B h) ∙ omega (arith, ints, shifted B h)

-- ---- the limit of B bits
limit_by : (B : ℕ) (a b : Bool) → nat_le 8 B ≡ a → nat_le B 62 ≡ b → 8 ≤ B → B ≤ 62
    → cond (a && b) (2 ^ B - 1) 255 ≡ 2 ^ B - 1
limit_by B true true p q h k = refl
limit_by B true false p q h k = absurd (omega (arith, leb-false B 62 q))
limit_by B false b p q h k = absurd (omega (arith, leb-false 8 B p))

pub limit-inside : (B : ℕ) → 8 ≤ B → B ≤ 62 → limit_of B ≡ 2 ^ B - 1
unfolding limit_of
limit-inside B h k = limit_by B (nat_le 8 B) (nat_le B 62) refl refl h k

outside_by : (B : ℕ) (a b : Bool) → nat_le 8 B ≡ a → nat_le B 62 ≡ b → ((8 ≤ B) × (62 < B)) ⊎ (B < 8)
    → cond (a && b) (2 ^ B - 1) 255 ≡ 255
outside_by B true true p q (inl h) = let k : 62 < B = h.1 in absurd (omega (arith, leb-true B 62 q))
outside_by B true true p q (inr h) = absurd (omega (arith, leb-true 8 B p))
outside_by B true false p q h = refl
outside_by B false b p q h = refl

pub limit-outside : (B : ℕ) → ((8 ≤ B) × (62 < B)) ⊎ (B < 8) → limit_of B ≡ 255
unfolding limit_of
limit-outside B h = outside_by B (nat_le 8 B) (nat_le B 62) refl refl h

-- ---- products and sums
pub product_value : (p a b m n : ℤ) → p ≡ to_z w64 (of_z w64 a) *ℤ to_z w64 (of_z w64 b) → nat_abs a < 2 ^ 62
    → nat_abs b < 2 ^ 62 → a ≡ m → b ≡ n → p ≡ m *ℤ n
product_value p a b m n e h k f g = e ∙ ap₂ ◌*ℤ◌ (seen a h ∙ f) (seen b k ∙ g)

-- a number of 64 bits fits in 128, and is itself there
pub widened : (z : ℤ) → SFits w64 z → SFits w128 (to_z w64 (of_z w64 z))
widened z h = omega (arith, ints)

pub seen_up : (z : ℤ) → SFits w64 z → to_z w128 (of_z w128 (to_z w64 (of_z w64 z))) ≡ z
seen_up z h = omega (arith, ints)

pub one_bits : (z : ℤ) → SFits w64 z → of_z w64 z ≡ 1 → nat_abs z ≡ 1
one_bits z h e = ap nat_abs (sym (to_z-of_z h)) ∙ ap (λ n. nat_abs (to_z w64 n)) e

pub cast_fits : (B m size : ℕ) (n : ℤ) → SFits w128 n → size ≡ nat_abs n → m ≡ limit_of B → size ≤ m
    → SFits w64 (to_z w128 (of_z w128 n))
cast_fits B m size n f p e h =
    subst (SFits w64) (sym (to_z-of_z f)) (fits_small n (within_limit B (nat_abs n) (omega arith)))

sign_small : (z : ℤ) → to_z w32 (of_z w32 (sign_of z)) ≡ sign_of z
sign_small (pos zero) = refl
sign_small (pos (suc n)) = refl
sign_small (negsuc n) = refl

-- a sign is itself in 32 bits
pub sign_seen : (r z : ℤ) → r ≡ sign_of (to_z w64 (of_z w64 z)) → nat_abs z < 2 ^ 62 → to_z w32 (of_z w32 r) ≡ sign_of z
sign_seen r z e h = ap (λ x. to_z w32 (of_z w32 x)) (e ∙ ap sign_of (seen z h)) ∙ sign_small z
