use Rattle.rob_linear.proofs.Meaning.Optimality.{optimal_ending, optimal_duals_ℚ}
use Rattle.rob_linear.proofs.Meaning.Truths.{optimal, optimal_duals}
use Rattle.rob_linear.proofs.ending.optimal_ending.Goals as goal

pub returns : goal.returns
returns c = record {
  best = optimal_ending;
  duals = optimal_duals_ℚ;
  scaled = λ P own rows s z b o p. (optimal P own rows s z b o p, (optimal_duals P own rows s z b o p).0);
}
