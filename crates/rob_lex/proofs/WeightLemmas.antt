-- Two numbers that keep weights: behind one more or one less, and how great they are.
use Rattle.std.proofs.Common.{◌≡◌, ℕ, zero, suc, ◌+◌, ◌-◌, ◌/◌, ◌%◌, ◌^◌, ◌<◌, ◌≤◌, ◌∷◌, ap, arith}
use Rattle.std.proofs.Math.Nat.{pow-le-pow_right, pow-suc}
use Rattle.rob_lex.specs.Weights.{total, weights_of, doubled_of}

-- the first of some
pub weights_of-some : (n b : ℕ) → 0 < n → weights_of n b ≡ (1 + b % 2) ∷ weights_of (n - 1) (b / 2)
weights_of-some zero b some = absurd (omega arith)
weights_of-some (suc n) b some =
    let less : n ≡ suc n - 1 = omega arith in
    ap (λ (m : ℕ). (1 + b % 2) ∷ weights_of m (b / 2)) less

-- each counts at least once
pub le-total : (n b : ℕ) → n ≤ total (weights_of n b)
le-total zero b = omega arith
le-total (suc n) b = omega (arith, le-total n (b / 2))

doubled_below : (n b : ℕ) → doubled_of (weights_of n b) < 2 ^ n
doubled_below zero b = omega arith
doubled_below (suc n) b =
    omega (arith, doubled_below n (b / 2), pow-suc 2 n)

-- where they count as few, the number of bits is small
pub doubled_small : (n b : ℕ) → total (weights_of n b) < 63 → doubled_of (weights_of n b) < 2 ^ 62
doubled_small n b few =
    let within : n ≤ 62 = omega (arith, le-total n b) in
    let bound : 2 ^ n ≤ 2 ^ 62 = pow-le-pow_right (omega arith) within in
    omega (arith, doubled_below n b, bound)
