-- The fraction that a `Frac<B>` is.
use Rattle.std.specs.Prelude.{◌≡◌, ℕ}
use Rattle.rob_algebra.specs.Fraction.{Fraction}
use Rattle.rob_algebra.specs.Width.{Fits}
use Rattle.rob_number.specs.Lowest.{Fits-lowest, den_same, fraction_of, limit_of, num_same, same_lowest}
use Rattle.rob_number.specs.declared.fraction.Frac.{Frac}

-- its numerator over its denominator
abbrev pub value_of : {B : ℕ} → Frac B → Fraction
value_of x = fraction_of x.num x.den x.lowest

-- ---- laws of a number type
pub value_of-injective : {B : ℕ} (x y : Frac B) → value_of x ≡ value_of y → x ≡ y
value_of-injective x y e i = record {
  num = num_same x.num y.num x.den y.den x.lowest y.lowest e i;
  den = den_same x.num y.num x.den y.den x.lowest y.lowest e i;
  lowest = same_lowest x.num y.num x.den y.den x.lowest y.lowest e i;
}

pub value_of-fits : {B : ℕ} (x : Frac B) → Fits (limit_of B) (value_of x)
value_of-fits {B} x = Fits-lowest (limit_of B) x.num x.den x.lowest
