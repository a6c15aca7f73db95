use Rattle.rob_linear.proofs.RowForms.Multiples.{wide_multiple, multiple_wide, pivot_wide}
use Rattle.rob_linear.proofs.multiple.width_up_to_factors.Goals as goal

pub returns : goal.returns
returns c = record {
  only = wide_multiple;
  shown = multiple_wide;
  refused = pivot_wide;
}
