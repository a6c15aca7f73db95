use Rattle.rob_linear.proofs.Bases.Unique.{point_exists, move_exists}
use Rattle.rob_linear.proofs.Meaning.Fundamental.{basic_point_exists}
use Rattle.rob_linear.proofs.basis.basic_solutions.Goals as goal

pub returns : goal.returns
returns c = record {
  point = basic_point_exists;
  scaled_point = point_exists;
  scaled_move = move_exists;
}
