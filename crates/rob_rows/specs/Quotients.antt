-- Rows over a divisor.
use Rattle.std.specs.Prelude.{ℤ, nat_abs, List, map}
use Rattle.rob_algebra.specs.Fraction.{Fraction, of_pair}

-- each entry over the divisor, which is positive
abbrev pub quotients : List ℤ → ℤ → List Fraction
quotients row divisor = map (λ entry. of_pair entry (nat_abs divisor)) row
