use Rattle.rob_counterpart.proofs.Pairs.PairNumbers.{one_left, point_one, dual_one, weight_one, unbounded_point_one, move_one}
use Rattle.rob_counterpart.proofs.basic_pairs.difference_laws.Goals as goal

pub returns : goal.returns
returns c = record {
  difference = one_left;
  point = λ d P own rows x y j re en. point_one d P re own rows x y en j;
  dual = λ d P own rows x y i k re en. dual_one d P re own rows x y en i k;
  weight = λ d P own rows i k re en. weight_one d P re own rows en i k;
  unbounded_point = λ d P own rows column x r j re en. unbounded_point_one d P re own rows column x r en j;
  direction = λ d P own rows column x r j re en. move_one d P re own rows column x r en j;
}
