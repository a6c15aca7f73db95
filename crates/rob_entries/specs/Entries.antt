-- Entries of rows, by their numbers.
use Rattle.std.specs.Prelude.{◌≡◌, ◌≢◌, ℕ, ◌+◌, ◌-◌, ◌^◌, ◌<◌, ◌≤◌, ℤ, pos, ◌*ℤ◌, nat_abs}
use Rattle.std.proofs.Common.{lit<, lit≤}
use Rattle.rob_algebra.specs.Gcd.{gcd}

-- two numbers are the same positive number times two parts
pub record ArePartsOf (p q first second : ℤ) : Type 0 where
  pub times : ℕ
  pub positive : 0 < times
  pub p_is : p ≡ pos times *ℤ first
  pub q_is : q ≡ pos times *ℤ second

-- the factors of a combination of rows within a limit: as the limit, they are within `top`; they are in lowest terms,
-- and the first is not 0
pub record AreFactors (top limit : ℕ) (p q : ℤ) : Type 0 where
  pub limit_low : limit ≤ top
  pub pivot : p ≢ pos 0
  pub sizes : (nat_abs p ≤ top) × (nat_abs q ≤ top)
  pub lowest : gcd (nat_abs p) (nat_abs q) ≤ 1

-- the limit of numbers of 64 bits, 2^62 - 1, is one that rows may have
pub short_low : 2 ^ 62 ≤ 2 ^ 62 - 1 + 1
short_low = lit≤ tt

pub short_high : 2 ^ 62 - 1 < 2 ^ 126
short_high = lit< tt

-- the limit of numbers of 128 bits, 2^126 - 1, is one that rows may have
pub long_low : 2 ^ 62 ≤ 2 ^ 126 - 1 + 1
long_low = lit≤ tt

pub long_high : 2 ^ 126 - 1 < 2 ^ 126
long_high = lit< tt
