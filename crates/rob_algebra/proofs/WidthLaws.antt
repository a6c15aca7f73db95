-- What fits a limit and what is wide: exactly one of the two, and what is kept of each.
use Rattle.std.specs.Prelude.{◌≡◌, ℕ, ◌≤◌, ℤ, nat_abs, ◌⊎◌, ◌↔◌, Bool, true, false, ◌||◌, nat_lt, cond, Some, None, refl}
use Rattle.std.proofs.Common.{arith, ap, inl, inr, ltb-true, ltb-false}
use Rattle.std.specs.Bool.{Decides}
use Rattle.rob_algebra.specs.Fraction.{Fraction, of_int}
use Rattle.rob_algebra.proofs.Parts.{of_int-parts}
use Rattle.rob_algebra.specs.Width.{Fits, IsWide, IsWideWhole, is_wide, kept}

module _ (limit : ℕ) (x : Fraction) where
  -- the test answers false where both parts fit, and true where one doesn't
  tested : (a b : Bool) → nat_lt limit (nat_abs x.num) ≡ a → nat_lt limit x.den ≡ b → ((a || b ≡ true) × IsWide limit x)
      ⊎ ((a || b ≡ false) × Fits limit x)
  tested true b p q = inl (refl, inl (ltb-true limit (nat_abs x.num) p))
  tested false true p q = inl (refl, inr (ltb-true limit x.den q))
  tested false false p q =
      inr (refl, record { num_fits = ltb-false limit (nat_abs x.num) p; den_fits = ltb-false limit x.den q })

  cases : ((is_wide limit x ≡ true) × IsWide limit x) ⊎ ((is_wide limit x ≡ false) × Fits limit x)
  cases = tested (nat_lt limit (nat_abs x.num)) (nat_lt limit x.den) refl refl

  -- a fraction fits or is wide
  pub fits_or_wide : Fits limit x ⊎ IsWide limit x
  fits_or_wide = elim cases [ inl w ↦ inr w.1 | inr f ↦ inl f.1 ]

  -- and not both
  pub fits_not_wide : Fits limit x → IsWide limit x → ⊥
  fits_not_wide f (inl w) = let p : nat_abs x.num ≤ limit = f.num_fits in omega arith
  fits_not_wide f (inr w) = let p : x.den ≤ limit = f.den_fits in omega arith

  pub is_wide_decides : Decides (is_wide limit x) (IsWide limit x)
  is_wide_decides = by cases
    where
      by : ((is_wide limit x ≡ true) × IsWide limit x) ⊎ ((is_wide limit x ≡ false) × Fits limit x)
          → Decides (is_wide limit x) (IsWide limit x)
      by (inl w) = (λ e. w.1, λ h. w.0)
      by (inr f) = (λ e. cc, λ h. absurd (fits_not_wide f.1 h))

  -- ---- what is kept
  -- a fraction that fits is kept
  pub kept-fits : Fits limit x → kept limit x ≡ Some x
  kept-fits h = by cases
    where
      by : ((is_wide limit x ≡ true) × IsWide limit x)
          ⊎ ((is_wide limit x ≡ false) × Fits limit x) → kept limit x ≡ Some x
      by (inl w) = absurd (fits_not_wide h w.1)
      by (inr f) = ap (λ b. cond b None (Some x)) f.0

  -- of a wide one nothing is kept
  pub kept-wide : IsWide limit x → kept limit x ≡ None
  kept-wide h = by cases
    where
      by : ((is_wide limit x ≡ true) × IsWide limit x)
          ⊎ ((is_wide limit x ≡ false) × Fits limit x) → kept limit x ≡ None
      by (inl w) = ap (λ b. cond b None (Some x)) w.0
      by (inr f) = absurd (fits_not_wide f.1 h)

  -- what is kept is the fraction, and it fits
  pub fits_of_kept : (y : Fraction) → kept limit x ≡ Some y → (y ≡ x) × Fits limit x
  fits_of_kept y e = by cases
    where
      by : ((is_wide limit x ≡ true) × IsWide limit x) ⊎ ((is_wide limit x ≡ false) × Fits limit x)
          → (y ≡ x) × Fits limit x
      by (inl w) = let p : kept limit x ≡ None = kept-wide w.1 in absurd cc
      by (inr f) = let p : kept limit x ≡ Some x = kept-fits f.1 in (cc, f.1)

  -- where nothing is kept, the fraction is wide
  pub wide_of_kept : kept limit x ≡ None → IsWide limit x
  wide_of_kept e = by cases
    where
      by : ((is_wide limit x ≡ true) × IsWide limit x) ⊎ ((is_wide limit x ≡ false) × Fits limit x) → IsWide limit x
      by (inl w) = w.1
      by (inr f) = let p : kept limit x ≡ Some x = kept-fits f.1 in absurd cc

-- ---- whole numbers
-- a whole number fits where its size does
pub Fits-of_int : (limit : ℕ) (z : ℤ) → 1 ≤ limit → nat_abs z ≤ limit → Fits limit (of_int z)
Fits-of_int limit z one h =
    record { num_fits = omega (arith, ap nat_abs (of_int-parts z).0); den_fits = omega (arith, (of_int-parts z).1) }

pub kept-of_int : (limit : ℕ) (z : ℤ) → 1 ≤ limit → nat_abs z ≤ limit → kept limit (of_int z) ≡ Some (of_int z)
kept-of_int limit z one h = kept-fits limit (of_int z) (Fits-of_int limit z one h)

pub wide_whole : (limit : ℕ) (z : ℤ) → 1 ≤ limit → IsWide limit (of_int z) ↔ IsWideWhole limit z
wide_whole limit z one = (by, λ h. inl (omega (arith, ap nat_abs (of_int-parts z).0)))
  where
    by : IsWide limit (of_int z) → IsWideWhole limit z
    by (inl h) = omega (arith, ap nat_abs (of_int-parts z).0)
    by (inr h) = absurd (omega (arith, (of_int-parts z).1))
