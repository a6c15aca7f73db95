use Rattle.rob_linear.proofs.Meaning.Endings.{point_is_solution}
use Rattle.rob_linear.proofs.ending.feasible_basis.Goals as goal

pub returns : goal.returns
returns c = record { solution = point_is_solution }
