use Rattle.rob_linear.proofs.RowForms.MultipleNumbers.{point_parallel, move_parallel, scaled_parallel, rank_parallel}
use Rattle.rob_linear.proofs.multiple.numbers_up_to_factors.Goals as goal

pub returns : goal.returns
returns c = record {
  point = point_parallel;
  direction = move_parallel;
  scaled = scaled_parallel;
  measure = rank_parallel;
}
