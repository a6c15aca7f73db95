-- Primitive rows that are multiples of one another are equal.
use Rattle.std.proofs.Common.{◌≡◌, ℕ, zero, suc, ◌*◌, ◌/◌, ◌<◌, sym, ap, ◌∙◌, subst, arith}
use Rattle.std.proofs.Math.Nat.{dvd-mul_right, dvd_of_mul-dvd-mul_left, mul-div_cancel'}
use Rattle.std.proofs.lemmas.Int.{ints, unsigned_abs-mul}
use Rattle.std.proofs.lemmas.Nat.Gcd.{dvd_antisymm, dvd-zero}
use Rattle.rob_algebra.specs.Gcd.{gcd, IsGcd-gcd, IsGcd-mul}
use Rattle.std.specs.Int.RustNames.{unsigned_abs}
use Rattle.std.specs.Int.{◌∣◌, IsGcd}
use lib.IntN.{ℤ, pos, negsuc, ◌*ℤ◌}
use lib.Signed.{◌<ℤ◌}
use Rattle.rob_linear.specs.Systems.{IsPrimitive}
use Rattle.rob_algebra.specs.IntegerOrder.{mul_cancel}

nothing : (g : ℕ) → g * 0 ≡ 0
nothing g = omega arith

-- a divisor of p * a and of q * a divides their greatest common divisor times a
gcd_times : (p q d a : ℕ) → d ∣ p * a → d ∣ q * a → d ∣ gcd p q * a
gcd_times p q d zero h k = subst (λ t. d ∣ t) (sym (nothing (gcd p q))) (dvd-zero d)
gcd_times p q d (suc a) h k = (IsGcd-mul p q (suc a) (omega arith)).2 d h k

gcd_positive : (g c p : ℕ) → 0 < p → g * c ≡ p → 0 < g
gcd_positive zero c p pp e = absurd (omega arith)
gcd_positive (suc g) c p pp e = omega arith

pub divides_other : (n p q : ℕ) (x y : ℕ → ℕ) → 0 < p → ((k : ℕ) → k < n → p * x k ≡ q * y k)
    → ((d : ℕ) → ((k : ℕ) → k < n → d ∣ y k) → d ≡ 1) → p ∣ q
divides_other n p q x y pp e h =
    let r : IsGcd p q (gcd p q) = IsGcd-gcd p q in
    let gp : gcd p q * (p / gcd p q) ≡ p = mul-div_cancel' (gcd p q) r.0 in
    let one : p / gcd p q ≡ 1 =
    h (p / gcd p q) (λ k l.
    let a : p ∣ q * y k = subst (λ t. p ∣ t) (e k l) (dvd-mul_right p (x k)) in
    let b : p ∣ gcd p q * y k = gcd_times p q p (y k) (dvd-mul_right p (y k)) a in
    dvd_of_mul-dvd-mul_left (p / gcd p q) (gcd_positive (gcd p q) (p / gcd p q) p pp gp)
    (subst (λ t. t ∣ gcd p q * y k) (sym gp) b)) in
    let same : gcd p q ≡ p = let f : gcd p q * (p / gcd p q) ≡ gcd p q * 1 = ap (λ t. gcd p q * t) one in omega arith in
    subst (λ t. t ∣ q) same r.1

factor_same : (n p q : ℕ) (r r' : ℕ → ℤ) → 0 < p → 0 < q → IsPrimitive n r → IsPrimitive n r'
    → ((k : ℕ) → k < n → pos p *ℤ r k ≡ pos q *ℤ r' k) → p ≡ q
factor_same n p q r r' pp qp h h' e =
    let s : (k : ℕ) → k < n → p * unsigned_abs (r k) ≡ q * unsigned_abs (r' k) =
    (λ k l. sym (unsigned_abs-mul (pos p) (r k)) ∙ ap unsigned_abs (e k l) ∙ unsigned_abs-mul (pos q) (r' k)) in
    dvd_antisymm (divides_other n p q (λ k. unsigned_abs (r k)) (λ k. unsigned_abs (r' k)) pp s h')
    (divides_other n q p (λ k. unsigned_abs (r' k)) (λ k. unsigned_abs (r k)) qp (λ k l. sym (s k l)) h)

pub primitive_same : (n : ℕ) (p q : ℤ) (r r' : ℕ → ℤ) → pos 0 <ℤ p → pos 0 <ℤ q → IsPrimitive n r → IsPrimitive n r'
    → ((k : ℕ) → k < n → p *ℤ r k ≡ q *ℤ r' k) → (k : ℕ) → k < n → r k ≡ r' k
primitive_same n (negsuc p) q r r' pp qp h h' e k l = absurd (omega (arith, ints))
primitive_same n (pos p) (negsuc q) r r' pp qp h h' e k l = absurd (omega (arith, ints))
primitive_same n (pos p) (pos q) r r' pp qp h h' e k l =
    let s : p ≡ q = factor_same n p q r r' (omega (arith, ints)) (omega (arith, ints)) h h' e in
    mul_cancel (pos p) (r k) (r' k) pp (e k l ∙ ap (λ t. pos t *ℤ r' k) (sym s))
