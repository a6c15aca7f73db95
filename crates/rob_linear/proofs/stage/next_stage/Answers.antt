use Rattle.rob_linear.proofs.CostChange.Stages.{half_is_next, half_cleared}
use Rattle.rob_linear.proofs.stage.next_stage.Goals as goal

pub returns : goal.returns
returns c = record {
  not_basic = half_is_next;
  basic = half_cleared;
}
