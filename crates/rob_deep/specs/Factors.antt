-- The factors of a combination, and what is asked of them and of both rows.
use Rattle.std.specs.Prelude.{◌≡◌, ◌≢◌, ℕ, ◌^◌, ◌<◌, ◌≤◌, ℤ, pos, nat_abs, List, length}
use Rattle.rob_algebra.specs.Gcd.{gcd}
use Rattle.rob_rows.specs.PrimitiveParts.{IsWithin, content}
use Rattle.rob_deep.specs.Rows.{IsOwn}
use Rattle.rob_deep.specs.declared.factors.Factors.{Factors}

-- nothing but 1 divides both, where not both are 0, and neither has more than 126 bits
pub record AreLowest (factors : Factors) : Type 0 where
  pub lowest : gcd (nat_abs factors.p) (nat_abs factors.q) ≤ 1
  pub p_size : nat_abs factors.p < 2 ^ 126
  pub q_size : nat_abs factors.q < 2 ^ 126

-- p times `top` less q times `low`, rows of so many entries within the limit, can be put in lowest terms: so are the
-- factors and `low`, p is not 0, and at the place `own` the first row has a number and the second has 0
pub record CanCombine (limit width : ℕ) (factors : Factors) (top low : List ℤ) (own : ℕ) : Type 0 where
  pub limit_low : limit < 2 ^ 126
  pub lowest : AreLowest factors
  pub pivot : factors.p ≢ pos 0
  pub top_length : length top ≡ width
  pub low_length : length low ≡ width
  pub top_within : IsWithin limit top
  pub low_within : IsWithin limit low
  pub primitive : content low ≡ 1
  pub own_in : IsOwn own top low

-- the entries of p times `top` less q times `low`, rows of so many within the limit, can be formed one by one: neither
-- the limit nor the factors have more than 126 bits
pub record CanFill (limit width : ℕ) (factors : Factors) (top low : List ℤ) : Type 0 where
  pub limit_low : limit < 2 ^ 126
  pub p_size : nat_abs factors.p < 2 ^ 126
  pub q_size : nat_abs factors.q < 2 ^ 126
  pub top_length : length top ≡ width
  pub low_length : length low ≡ width
  pub top_within : IsWithin limit top
  pub low_within : IsWithin limit low
