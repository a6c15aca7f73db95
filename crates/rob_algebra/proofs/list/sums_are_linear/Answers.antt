use Rattle.rob_algebra.specs.FractionLists.{total_ℚ, dot_ℚ, dot_comm_ℚ}
use Rattle.rob_algebra.specs.FractionLaws.{ℚ_ring}
use Rattle.rob_algebra.specs.Lists.{total-append, total-scale, dot-scale, dot-plus}
use Rattle.rob_algebra.proofs.list.sums_are_linear.Goals as goal

pub returns : goal.returns
unfolding total_ℚ dot_ℚ
returns c = record {
  append = total-append ℚ_ring;
  scaled = total-scale ℚ_ring;
  symmetric = dot_comm_ℚ;
  product_scaled = dot-scale ℚ_ring;
  product_of_sum = dot-plus ℚ_ring;
}
