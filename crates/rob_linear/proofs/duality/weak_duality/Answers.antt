use Rattle.rob_linear.proofs.Meaning.Optimality.{weak_duality_ℚ}
use Rattle.rob_linear.proofs.duality.weak_duality.Goals as goal

pub returns : goal.returns
returns c = record { bound = weak_duality_ℚ }
