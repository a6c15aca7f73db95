-- Rows in lowest terms: over the greatest common divisor of their entries.
-- Knuth, The Art of Computer Programming, volume 2, section 4.6.1, there of polynomials.
use Rattle.std.specs.Prelude.{ℕ, zero, suc, nat_abs}
use Rattle.rob_algebra.specs.Fraction.{int_over}
use Rattle.rob_algebra.specs.Gcd.{gcd}
use Rattle.rob_linear.specs.Vectors.{Vector}

-- the greatest common divisor of the first n entries, 0 where all are 0
unfoldable pub content : ℕ → Vector → ℕ
content zero row = 0
content (suc n) row = gcd (content n row) (nat_abs (row n))

-- the row over what divides its first n entries
unfoldable pub lowest_terms : ℕ → Vector → Vector
lowest_terms n row k = int_over (row k) (content n row)
