-- What groups of conditions claim, where rob_meaning has no word for it.
use Rattle.std.specs.Prelude.{◌≡◌, List}
use Rattle.rob_algebra.specs.Fraction.{Fraction, ◌<ℚ◌}
use Rattle.rob_meaning.specs.Certificates.{Item}
use Rattle.rob_meaning.specs.Forms.{plan_vector}
use Rattle.rob_meaning.specs.Places.{0ℚ}
use Rattle.rob_meaning.specs.Proves.{combination}
use Rattle.rob_meaning.specs.RobustModel.{RobustModel, column_count}
use Rattle.rob_meaning.specs.Vectors.{zeros}

-- the items sum to a positive constant, and to 0 in each decision column and in tau
pub record SumsToPositive (m : RobustModel) (items : List Item) : Type 0 where
  pub constant : Fraction
  pub positive : 0ℚ <ℚ constant
  pub sums : combination m items ≡ plan_vector constant (zeros (column_count m)) 0ℚ
