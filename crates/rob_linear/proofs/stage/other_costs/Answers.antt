use Rattle.rob_linear.proofs.CostChange.OtherCosts.{reached_on}
use Rattle.rob_linear.proofs.CostChange.WideRows.{wide_from}
use Rattle.rob_linear.proofs.stage.other_costs.Goals as goal

pub returns : goal.returns
returns c = record {
  reached = reached_on;
  wide = wide_from;
}
