use Rattle.rob_linear.proofs.BasisPaths.LastBases.{last_ends, optimum_is_last, ray_is_last, first_phase_is_last}
use Rattle.rob_linear.proofs.path.last_basis.Goals as goal

pub returns : goal.returns
returns c = record {
  ending = last_ends;
  optimal = optimum_is_last;
  unbounded = ray_is_last;
  infeasible = first_phase_is_last;
}
