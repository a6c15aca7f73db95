use Rattle.rob_bounds.proofs.NarrowPaths.{stage_within, half_within}
use Rattle.rob_bounds.proofs.narrow.stages.Goals as goal

pub returns : goal.returns
returns c = record {
  stage = stage_within;
  between = half_within;
}
