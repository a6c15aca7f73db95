use Rattle.rob_bounds.proofs.Equations.{small_solution}
use Rattle.rob_bounds.proofs.counting.siegels_lemma.Goals as goal

pub returns : goal.returns
returns c = record { small = small_solution }
