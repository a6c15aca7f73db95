use Rattle.rob_linear.proofs.BasisPaths.Measure.{rank_rises, rank_below}
use Rattle.rob_linear.proofs.pivot.ranks.Goals as goal

pub returns : goal.returns
returns c = record {
  rises = rank_rises;
  bounded = rank_below;
}
