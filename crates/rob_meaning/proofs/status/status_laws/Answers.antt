use Rattle.rob_meaning.proofs.Proving.StatusLemmas.{one_optimum, optimal_not_infeasible, optimal_not_unbounded, infeasible_not_unbounded}
use Rattle.rob_meaning.proofs.status.status_laws.Goals as goal

pub returns : goal.returns
returns c = record {
  one_value = one_optimum;
  not_infeasible = optimal_not_infeasible;
  not_unbounded = optimal_not_unbounded;
  not_both = infeasible_not_unbounded;
}
