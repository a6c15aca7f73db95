use Rattle.rob_linear.proofs.RowForms.MultiplePaths.{path_turn, path_turn_from, multiple_optimum, multiple_ray, optimum_last_from, ray_last_from}
use Rattle.rob_linear.proofs.multiple.paths_up_to_factors.Goals as goal

pub returns : goal.returns
returns c = record {
  turn = path_turn;
  turn_from = path_turn_from;
  optimum = multiple_optimum;
  ray = multiple_ray;
  last_optimum = optimum_last_from;
  last_ray = ray_last_from;
}
