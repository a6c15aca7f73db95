use Rattle.rob_counterpart.specs.Splitting.{plus, minus}
use Rattle.rob_counterpart.proofs.Pairs.SplitLemmas.{point_opposite, move_opposite, set_pair, master_pair}
use Rattle.rob_counterpart.proofs.basic_pairs.further_difference_laws.Goals as goal

pub returns : goal.returns
returns c = record {
  set_point = λ d f P own rows x k se co l b p.
      point_opposite P (plus k) (minus k) (set_pair d f P se co k l) own rows b x p;
  set_ray = λ d f P own rows column x r k se co l en.
      move_opposite P (plus k) (minus k) (set_pair d f P se co k l) own rows en.basis column r
      en.ends.improving en.move;
  master_point = λ d cuts P own rows x j ma l b p.
      point_opposite P (plus j) (minus j) (master_pair d cuts P ma j l) own rows b x p;
  master_direction = λ d cuts P own rows column x r j ma l en.
      move_opposite P (plus j) (minus j) (master_pair d cuts P ma j l) own rows en.basis column r en.ends.improving
      en.move;
}
