use Rattle.rob_linear.proofs.RowForms.MultipleStages.{multiple_first, multiple_next, multiple_cleared, multiple_last, multiple_new_cost, multiple_stage_wide, multiple_half_wide}
use Rattle.rob_linear.proofs.multiple.new_cost_up_to_factors.Goals as goal

pub returns : goal.returns
returns c = record {
  first = multiple_first;
  not_basic = multiple_next;
  basic = multiple_cleared;
  last = multiple_last;
  stands = multiple_new_cost;
  wide = multiple_stage_wide;
  wide_between = multiple_half_wide;
}
