-- Sizes of sums and products of whole numbers.
use Rattle.std.proofs.Common.{◌≡◌, ℕ, zero, suc, ◌+◌, ◌*◌, ◌<◌, ◌≤◌, sym, ap, ◌∙◌, subst, arith}
use Rattle.std.proofs.lemmas.Int.{ints, unsigned_abs-mul}
use Rattle.std.proofs.lemmas.Nat.{mul-le}
use Rattle.std.specs.Int.RustNames.{unsigned_abs}
use lib.IntN.{ℤ, pos, negsuc, ◌+ℤ◌, ◌*ℤ◌, neg_ℤ}
use lib.Signed.{◌<ℤ◌}
use Rattle.rob_linear.specs.Vectors.{sum_to}

pub size-add : (a b : ℤ) → unsigned_abs (a +ℤ b) ≤ unsigned_abs a + unsigned_abs b
size-add a b = omega (arith, ints)

pub size-neg : (a : ℤ) → unsigned_abs (neg_ℤ a) ≡ unsigned_abs a
size-neg a = omega (arith, ints)

pub size-mul : (a b : ℤ) (m n : ℕ) → unsigned_abs a ≤ m → unsigned_abs b ≤ n → unsigned_abs (a *ℤ b) ≤ m * n
size-mul a b m n h k =
    subst (λ v. v ≤ m * n) (sym (unsigned_abs-mul a b)) (mul-le (unsigned_abs a) (unsigned_abs b) m n h k)

pub size-sum : (n h : ℕ) (f : ℕ → ℤ) → ((k : ℕ) → k < n → unsigned_abs (f k) ≤ h) → unsigned_abs (sum_to n f) ≤ n * h
size-sum zero h f l = omega (arith, ints)
size-sum (suc n) h f l =
    let a : unsigned_abs (sum_to n f) ≤ n * h = size-sum n h f (λ k kl. l k (omega arith)) in
    let b : unsigned_abs (f n) ≤ h = l n (omega arith) in
    let c : unsigned_abs (sum_to n f +ℤ f n) ≤ unsigned_abs (sum_to n f) + unsigned_abs (f n) =
    size-add (sum_to n f) (f n) in
    omega arith

-- a positive factor makes nothing smaller
pub size-factor : (g x y : ℤ) → pos 0 <ℤ g → g *ℤ x ≡ y → unsigned_abs x ≤ unsigned_abs y
size-factor (negsuc g) x y p e = absurd (omega (arith, ints))
size-factor (pos zero) x y p e = absurd (omega (arith, ints))
size-factor (pos (suc g)) x y p e =
    let a : suc g * unsigned_abs x ≡ unsigned_abs y = sym (unsigned_abs-mul (pos (suc g)) x) ∙ ap unsigned_abs e in
    omega arith
