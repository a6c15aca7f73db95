use Rattle.rob_linear.proofs.LinearPrograms.Vectors.{at-past}
use Rattle.rob_linear.proofs.basis.entries_of_a_list.Goals as goal

pub returns : goal.returns
returns c = record { past_the_end = at-past }
