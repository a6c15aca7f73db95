-- Whole numbers: their order is that of their fractions, one that is not below 0 is its size,
-- and one below a product of two stands in a block.
use Rattle.std.specs.Prelude.{◌≡◌, ℕ, zero, suc, ◌+◌, ◌-◌, ◌*◌, ◌<◌, false, ℤ, pos, negsuc, nat_abs, ◌*ℤ◌, ◌≤ℤ◌, ◌<ℤ◌, int_lt, refl}
use Rattle.std.proofs.Common.{arith, inl, inr}
use Rattle.std.proofs.lemmas.Bool.{cases_lt}
use Rattle.std.proofs.lemmas.Int.{ints}
use Rattle.rob_algebra.specs.Fraction.{of_int, ◌≤ℚ◌, ◌<ℚ◌}
use Rattle.rob_algebra.specs.FractionPairs.{is_int}
use Rattle.rob_algebra.specs.PairOrder.{is_le_in, is_le_out, is_lt_in}

pub of_int_le : (a b : ℤ) → a ≤ℤ b → of_int a ≤ℚ of_int b
of_int_le a b h = is_le_in (is_int a) (is_int b) (omega (arith, ints))

pub le_of_int : (a b : ℤ) → of_int a ≤ℚ of_int b → a ≤ℤ b
le_of_int a b h = let k : (a *ℤ pos 1) ≤ℤ (b *ℤ pos 1) = is_le_out (is_int a) (is_int b) h in omega (arith, ints)

pub of_int_lt : (a b : ℤ) → a <ℤ b → of_int a <ℚ of_int b
of_int_lt a b h = is_lt_in (is_int a) (is_int b) (omega (arith, ints))

-- ---- a number that is not below 0 is its size
pub size_is : (z : ℤ) → int_lt z (pos 0) ≡ false → pos (nat_abs z) ≡ z
size_is (pos n) h = refl
size_is (negsuc n) h = cc

-- ---- of n blocks of w places, each place is one in a block
pub at_block : (n w t : ℕ) → t < n * w → (i : ℕ) × (p : ℕ) × (i < n) × (p < w) × (t ≡ (i * w) + p)
at_block zero w t l = let e : zero * w ≡ zero = grind arith in absurd (omega arith)
at_block (suc n) w t l =
    let e : suc n * w ≡ (n * w) + w = grind arith in
    elim (cases_lt t (n * w)) [
      | inl c ↦ let g : (i : ℕ) × (p : ℕ) × (i < n) × (p < w) × (t ≡ (i * w) + p) = at_block n w t c in
          (g.0, g.1, (let h : g.0 < n = g.2 in omega arith), g.3, g.4)
      | inr c ↦ (n, t - (n * w), omega arith, omega arith, omega arith)
    ]
