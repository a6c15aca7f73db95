use Rattle.rob_linear.proofs.CostChange.Stages.{first_stage, last_stage, stage_unique, half_stage_unique}
use Rattle.rob_linear.proofs.stage.stages.Goals as goal

pub returns : goal.returns
returns c = record {
  first = first_stage;
  last = last_stage;
  one = stage_unique;
  one_between = half_stage_unique;
}
