-- Division with a rest.
use Rattle.std.specs.Prelude.{◌≡◌, ◌<◌, ℕ, ℤ, pos, ◌+ℤ◌, ◌*ℤ◌}

-- the number is a multiple of the divisor and the rest, which is less than the divisor
pub record IsRest (number : ℤ) (divisor rest : ℕ) : Type 0 where
  pub quotient : ℤ
  pub whole : number ≡ (pos divisor *ℤ quotient) +ℤ pos rest
  pub less : rest < divisor
