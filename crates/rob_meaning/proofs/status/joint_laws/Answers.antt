use Rattle.rob_meaning.proofs.Scenarios.JointBoundLemmas.{bounds_agree, infeasible_agree, optimal_agree, some_jointly, unbounded_agree}
use Rattle.rob_meaning.proofs.status.joint_laws.Goals as goal

pub returns : goal.returns
returns c = record {
  some_scenario = some_jointly;
  bound = λ m plan tau model some. bounds_agree m model some plan tau;
  optimal = λ m v model some. optimal_agree m model some v;
  infeasible = infeasible_agree;
  unbounded = unbounded_agree;
}
