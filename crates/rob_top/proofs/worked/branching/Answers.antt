use Rattle.rob_top.proofs.ByHand.WorkedEmptyWholes.{impossible_demand_is_shown}
use Rattle.rob_top.proofs.ByHand.WorkedTrees.{cheaper_orders_are_rejected, empty_tree_is_refused, whole_orders_are_accepted}
use Rattle.rob_top.proofs.ByHand.WorkedWholes.{half_a_demand_is_solved, x_is_boundless, y_is_no_variable}
use Rattle.rob_top.proofs.worked.branching.Goals as goal

pub returns : goal.returns
returns c = record {
  boundless = x_is_boundless;
  nameless = y_is_no_variable;
  halves = half_a_demand_is_solved;
  empty_whole = impossible_demand_is_shown;
  treeless = empty_tree_is_refused;
  proved_tree = whole_orders_are_accepted;
  unproved_tree = cheaper_orders_are_rejected;
}
