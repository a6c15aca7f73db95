use Rattle.rob_algebra.specs.FractionLists.{dot_ℚ, dot_mono, weak_duality}
use Rattle.rob_algebra.specs.FractionLaws.{ℚ_ring}
use Rattle.rob_algebra.specs.Lists.{dot-vec_mat}
use Rattle.rob_algebra.proofs.list.sums_are_monotone.Goals as goal

pub returns : goal.returns
unfolding dot_ℚ
returns c = record {
  monotone = dot_mono;
  transposed = λ n rows x y r. dot-vec_mat ℚ_ring n y rows x r;
  weak_duality = weak_duality;
}
