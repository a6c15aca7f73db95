-- The fraction that a `Quick<B>` is.
use Rattle.std.specs.Prelude.{ℕ}
use Rattle.rob_algebra.specs.Fraction.{Fraction}
use Rattle.rob_number.specs.Frac.{value_of}
use Rattle.rob_quick.specs.declared.quick.Quick.{Quick}

-- that of the number which it keeps
abbrev pub quick_value : {B : ℕ} → Quick B → Fraction
quick_value x = value_of x.fraction
