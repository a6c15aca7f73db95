use Rattle.rob_linear.proofs.RowForms.Multiples.{enters_parallel, leaves_parallel, order_parallel, optimal_parallel, unbounded_parallel, rises_parallel}
use Rattle.rob_linear.proofs.multiple.choices_up_to_factors.Goals as goal

pub returns : goal.returns
returns c = record {
  enters = enters_parallel;
  leaves = leaves_parallel;
  order = order_parallel;
  optimal = optimal_parallel;
  unbounded = unbounded_parallel;
  rises = rises_parallel;
}
