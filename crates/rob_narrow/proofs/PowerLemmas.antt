-- A power that is made factor by factor.
use Rattle.std.proofs.Common.{◌≡◌, ℕ, suc, ◌+◌, ◌*◌, ◌^◌, ◌<◌, ◌≤◌, ap, arith, Fits}
use Rattle.std.proofs.Math.Nat.{pow-zero, pow-succ', pow-le-pow_right}
use Rattle.std.proofs.lemmas.Nat.{mul-le}
use mir.Syntax.{w128}

pub power_once : (factor : ℕ) → factor ≡ factor ^ suc 0
power_once factor = let e : factor ^ 0 ≡ 1 = pow-zero factor in
    let f : factor ^ suc 0 ≡ factor * factor ^ 0 = pow-succ' factor 0 in
    let g : factor * factor ^ 0 ≡ factor * 1 = ap (λ v. factor * v) e in omega arith

pub power_next : (factor counter product : ℕ) → product ≡ factor ^ suc counter
    → product * factor ≡ factor ^ suc (counter + 1)
power_next factor counter product e =
    let f : factor ^ suc (suc counter) ≡ factor * factor ^ suc counter = pow-succ' factor (suc counter) in
    let g : product * factor ≡ factor ^ suc counter * factor = ap (λ v. v * factor) e in
    let s : counter + 1 ≡ suc counter = omega arith in
    let h : factor ^ suc (counter + 1) ≡ factor ^ suc (suc counter) = ap (λ v. factor ^ suc v) s in
    omega arith

-- more factors make it no smaller
pub power_over : (limit factor counter exponent : ℕ) → 0 < factor → counter ≤ exponent → limit < factor ^ suc counter
    → limit < factor ^ suc exponent
power_over limit factor counter exponent p l o =
    let s : suc counter ≤ suc exponent = omega arith in
    let m : factor ^ suc counter ≤ factor ^ suc exponent = pow-le-pow_right p s in
    omega arith

pub product_fits : (limit factor product : ℕ) → limit < 2 ^ 64 → factor ≤ limit → product ≤ limit
    → Fits w128 (product * factor)
product_fits limit factor product l f p =
    let a : product ≤ 18446744073709551615 = omega arith in
    let b : factor ≤ 18446744073709551615 = omega arith in
    let m : product * factor ≤ 18446744073709551615 * 18446744073709551615 =
    mul-le product factor 18446744073709551615 18446744073709551615 a b in
    omega arith
