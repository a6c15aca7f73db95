use Rattle.rob_top.proofs.ByHand.WorkedBudgets.{a_budget_is_limited, a_budget_is_swept}
use Rattle.rob_top.proofs.ByHand.WorkedSweeps.{no_budget_is_limited, no_budget_is_swept}
use Rattle.rob_top.proofs.worked.sweeping.Goals as goal

pub returns : goal.returns
returns c = record {
  unswept = no_budget_is_swept;
  unlimited = no_budget_is_limited;
  swept = a_budget_is_swept;
  limited = a_budget_is_limited;
}
