-- What divides what.
use Rattle.std.proofs.Common.{◌≡◌, ℕ, zero, suc, ◌*◌, ◌%◌, ◌<◌, ◌≤◌, arith, refl, inl, inr, ap, ◌∙◌, subst, sym, IsTrue, nat_eq, rules, ◌↔◌}
use Rattle.std.proofs.lemmas.Nat.Gcd.{dvd_refl, dvd-zero, le_of_dvd, dvd_of_mod-eq-zero, mod-eq-zero_of_dvd}
use Rattle.std.proofs.Math.Nat.{one-dvd, mul_comm}
use Rattle.std.proofs.lemmas.Int.{unsigned_abs-mul}
use lib.IntN.{ℤ, pos, ◌*ℤ◌, nat_abs}
use Rattle.std.proofs.lemmas.Bool.{cases_eq}
use Rattle.std.specs.Int.{◌∣◌}
use Rattle.rob_algebra.specs.Gcd.{gcd, gcd-mul, gcd_is, IsGcd-gcd}

-- what divides a number is its greatest common divisor with that number
pub gcd-divides : (a b : ℕ) → a ∣ b → gcd a b ≡ a
gcd-divides a b d = gcd_is a b a (dvd_refl a, d, λ e x y. x)

-- nothing but 1 divides 1
pub gcd-one : (a : ℕ) → gcd 1 a ≡ 1
gcd-one a = gcd-divides 1 a (one-dvd a)

-- the test of a remainder
pub divides_by_remainder : (a b : ℕ) → IsTrue (nat_eq (b % a) 0) ↔ (a ∣ b)
divides_by_remainder a b = (
  λ t. dvd_of_mod-eq-zero a (search (rules, t)),
  λ d. let e : b % a ≡ 0 =
      mod-eq-zero_of_dvd a d in search (rules, e),
)

-- a greatest common divisor is no greater than the numbers
pub gcd-below : (a b limit : ℕ) → a < limit → b < limit → gcd a b < limit
gcd-below a b limit h k =
    elim (cases_eq a 0) [
      | inl z ↦ subst (λ t. gcd t b < limit) (sym z)
          (subst (λ t. t < limit) (sym (gcd_is 0 b b (dvd-zero b, dvd_refl b, λ e x y. y))) k)
      | inr n ↦ let below : gcd a b ≤ a = le_of_dvd (omega arith) (IsGcd-gcd a b).0 in omega arith
    ]

pub one_left : (c g : ℕ) → 0 < g → g ≡ c * g → c ≡ 1
one_left zero g h e = absurd (omega arith)
one_left (suc zero) g h e = refl
one_left (suc (suc c)) g h e = absurd (omega arith)

-- two numbers over their greatest common divisor have nothing in common
pub quotients_lowest : (p q r s : ℤ) (g : ℕ) → 0 < g → g ≡ gcd (nat_abs p) (nat_abs q) → p ≡ pos g *ℤ r → q ≡ pos g *ℤ s
    → gcd (nat_abs r) (nat_abs s) ≤ 1
quotients_lowest p q r s g h e ep eq =
    let first : nat_abs p ≡ nat_abs r * g = ap nat_abs ep ∙ unsigned_abs-mul (pos g) r ∙ mul_comm g (nat_abs r) in
    let second : nat_abs q ≡ nat_abs s * g = ap nat_abs eq ∙ unsigned_abs-mul (pos g) s ∙ mul_comm g (nat_abs s) in
    let one : gcd (nat_abs r) (nat_abs s) ≡ 1 =
    one_left (gcd (nat_abs r) (nat_abs s)) g h
    (e ∙ ap (λ t. gcd t (nat_abs q)) first ∙ ap (gcd (nat_abs r * g)) second ∙ gcd-mul (nat_abs r) (nat_abs s) g h) in
    omega arith
