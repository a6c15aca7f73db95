use Rattle.rob_top.proofs.ByHand.WorkedEmptyWorsts.{empty_interval_has_no_worst_case}
use Rattle.rob_top.proofs.ByHand.WorkedSearches.{order_12_has_a_worst_case}
use Rattle.rob_top.proofs.ByHand.WorkedSlacks.{order_least_has_a_wide_slack}
use Rattle.rob_top.proofs.ByHand.WorkedWorsts.{no_order_has_no_plan, q_is_no_form, r_has_a_worst_case}
use Rattle.rob_top.proofs.worked.searching.Goals as goal

pub returns : goal.returns
returns c = record {
  worst_case = r_has_a_worst_case;
  formless = q_is_no_form;
  unplanned = no_order_has_no_plan;
  printed = order_12_has_a_worst_case;
  wide_slack = order_least_has_a_wide_slack;
  empty_worst = empty_interval_has_no_worst_case;
}
