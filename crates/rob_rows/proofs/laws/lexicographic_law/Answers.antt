use Rattle.rob_rows.proofs.FirstDifferences.{first_difference}
use Rattle.rob_rows.proofs.laws.lexicographic_law.Goals as goal

pub returns : goal.returns
returns c = record { first_difference = first_difference }
