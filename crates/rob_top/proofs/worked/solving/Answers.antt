use Rattle.rob_top.proofs.ByHand.WorkedCalls.{empty_interval_is_shown, one_demand_is_solved}
use Rattle.rob_top.proofs.ByHand.WorkedCuts.{one_demand_is_cut}
use Rattle.rob_top.proofs.ByHand.WorkedEmptyCalls.{never_calm_is_shown}
use Rattle.rob_top.proofs.ByHand.WorkedNarrowSolves.{empty_interval_is_cut, empty_interval_is_not_wide, one_demand_has_status, one_demand_is_not_wide}
use Rattle.rob_top.proofs.ByHand.WorkedNarrows.{one_demand_has_bounds}
use Rattle.rob_top.proofs.ByHand.WorkedSetCalls.{hard_and_soft_is_solved}
use Rattle.rob_top.proofs.worked.solving.Goals as goal

pub returns : goal.returns
returns c = record {
  optimal = one_demand_is_solved;
  by_cuts = one_demand_is_cut;
  narrow_spot = one_demand_is_not_wide;
  narrow_status = one_demand_has_status;
  empty = empty_interval_is_shown;
  narrow_empty = empty_interval_is_not_wide;
  empty_by_cuts = empty_interval_is_cut;
  named_set = hard_and_soft_is_solved;
  empty_named_set = never_calm_is_shown;
  narrow = one_demand_has_bounds;
}
