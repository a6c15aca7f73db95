use Rattle.rob_top.proofs.ByHand.WorkedChecks.{order_11_is_rejected, order_12_is_accepted}
use Rattle.rob_top.proofs.ByHand.WorkedReplays.{no_demand_is_refused, no_order_is_planless, order_least_is_wide, two_demands_are_printed, two_demands_are_replayed}
use Rattle.rob_top.proofs.worked.checking.Goals as goal

pub returns : goal.returns
returns c = record {
  accepted = order_12_is_accepted;
  rejected = order_11_is_rejected;
  replayed = two_demands_are_replayed;
  table = two_demands_are_printed;
  wide = order_least_is_wide;
  planless = no_order_is_planless;
  unread = no_demand_is_refused;
}
