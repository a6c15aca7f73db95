use Rattle.rob_algebra.specs.FractionOrderLaws.{le_total_ℚ, le_antisym_ℚ, le_trans_ℚ, not_lt_ℚ, trichotomy, add_mono_ℚ, mul_mono_ℚ}
use Rattle.rob_algebra.proofs.Parts.{of_int-le}
use Rattle.rob_algebra.proofs.fraction.fractions_are_ordered.Goals as goal

pub returns : goal.returns
returns c = record {
  total = le_total_ℚ;
  antisymmetric = le_antisym_ℚ;
  transitive = le_trans_ℚ;
  strict = not_lt_ℚ;
  three_ways = trichotomy;
  sums = add_mono_ℚ;
  products = mul_mono_ℚ;
  whole = of_int-le;
}
