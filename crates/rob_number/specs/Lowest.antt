-- Pairs of machine numbers in lowest terms, and the limit on their size that a number of bits gives.
use Rattle.std.specs.Prelude.{◌≡◌, ℕ, ◌-◌, ◌^◌, ◌<◌, ◌≤◌, ℤ, pos, negsuc, ◌<ℤ◌, neg_ℤ, nat_abs, Bool, true, false, ◌&&◌, nat_le, cond, refl}
use Rattle.std.proofs.Common.{arith, pow_mono, leb-true, ap, sym, ◌∙◌}
use Rattle.std.proofs.lemmas.Int.{ints}
use Rattle.std.proofs.Math.Dec.{T_prop}
use native.Mathlib.Nat.{ℕ_set}
use native.Mathlib.Bridge.{le_prop}
use mathlib.Core.Path.{PathP}
use mathlib.Core.HLevel.{is_prop→PathP}
use Rattle.rob_algebra.specs.Gcd.{gcd}
use Rattle.rob_algebra.specs.Fraction.{Fraction, to_reduced}
use Rattle.rob_algebra.specs.Width.{Fits}

-- the largest size of a numerator or denominator of B bits, from 8 to 62; that of 8 bits for every other B
unfoldable pub limit_of : ℕ → ℕ
limit_of B = cond (nat_le 8 B && nat_le B 62) (2 ^ B - 1) 255

-- num / den is in lowest terms, with a denominator above 0, and neither is over the limit
pub record IsLowest (limit : ℕ) (num den : ℤ) : Type 0 where
  pub positive : pos 0 <ℤ den
  pub lowest : gcd (nat_abs num) (nat_abs den) ≡ 1
  pub num_fits : nat_abs num ≤ limit
  pub den_fits : nat_abs den ≤ limit

pub size_positive : (d : ℤ) → pos 0 <ℤ d → 0 < nat_abs d
size_positive (pos d) h = omega (arith, ints)
size_positive (negsuc d) h = absurd h.lt

pub size_back : (d : ℤ) → pos 0 <ℤ d → pos (nat_abs d) ≡ d
size_back (pos d) h = refl
size_back (negsuc d) h = absurd h.lt

-- the fraction that a pair in lowest terms is
abbrev pub fraction_of : {limit : ℕ} (num den : ℤ) → IsLowest limit num den → Fraction
fraction_of num den h = record {
  num = num;
  den = nat_abs den;
  reduced = to_reduced num (nat_abs den) (size_positive den h.positive) h.lowest;
}

-- ---- the laws of a number type that its numbers rest on
pub Fits-lowest : (limit : ℕ) (num den : ℤ) (h : IsLowest limit num den) → Fits limit (fraction_of num den h)
Fits-lowest limit num den h = record { num_fits = h.num_fits; den_fits = h.den_fits }

-- two pairs of one fraction are one pair
pub num_same : {limit : ℕ} (n m d e : ℤ) (h : IsLowest limit n d) (k : IsLowest limit m e)
    → fraction_of n d h ≡ fraction_of m e k → n ≡ m
num_same n m d e h k p = ap (λ (x : Fraction). x.num) p

pub den_same : {limit : ℕ} (n m d e : ℤ) (h : IsLowest limit n d) (k : IsLowest limit m e)
    → fraction_of n d h ≡ fraction_of m e k → d ≡ e
den_same n m d e h k p = sym (size_back d h.positive) ∙ ap (λ (x : Fraction). pos x.den) p ∙ size_back e k.positive

-- one pair has its facts in one way only
lowest_prop : (limit : ℕ) (n d : ℤ) → IsProp (IsLowest limit n d)
lowest_prop limit n d = hlevel (T_prop, ℕ_set, le_prop)

pub same_lowest : {limit : ℕ} (n m d e : ℤ) (h : IsLowest limit n d) (k : IsLowest limit m e)
    (p : fraction_of n d h ≡ fraction_of m e k)
    → PathP (λ i. IsLowest limit (num_same n m d e h k p i) (den_same n m d e h k p i)) h k
same_lowest {limit} n m d e h k p =
    is_prop→PathP (λ i. IsLowest limit (num_same n m d e h k p i) (den_same n m d e h k p i))
    (λ i. lowest_prop limit (num_same n m d e h k p i) (den_same n m d e h k p i)) h k

within : (B : ℕ) (a b : Bool) → nat_le 8 B ≡ a → nat_le B 62 ≡ b → (1 ≤ cond (a && b) (2 ^ B - 1) 255)
    × (cond (a && b) (2 ^ B - 1) 255 ≤ 2 ^ 62 - 1)
within B true true p q =
    let low : 2 ^ 8 ≤ 2 ^ B = pow_mono (leb-true 8 B p) in
    let high : 2 ^ B ≤ 2 ^ 62 = pow_mono (leb-true B 62 q) in
    (omega arith, omega arith)
within B true false p q = (omega arith, omega arith)
within B false b p q = (omega arith, omega arith)

pub limit_low : (B : ℕ) → 1 ≤ limit_of B
unfolding limit_of
limit_low B = (within B (nat_le 8 B) (nat_le B 62) refl refl).0

pub limit_high : (B : ℕ) → limit_of B ≤ 2 ^ 62 - 1
unfolding limit_of
limit_high B = (within B (nat_le 8 B) (nat_le B 62) refl refl).1

-- a size with the sign of a whole number
abbrev pub with_sign : ℤ → ℕ → ℤ
with_sign (pos _) size = pos size
with_sign (negsuc _) size = neg_ℤ (pos size)
