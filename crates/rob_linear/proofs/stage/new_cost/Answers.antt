use Rattle.rob_linear.proofs.CostChange.Stages.{new_cost_stands}
use Rattle.rob_linear.proofs.stage.new_cost.Goals as goal

pub returns : goal.returns
returns c = record { stands = new_cost_stands }
