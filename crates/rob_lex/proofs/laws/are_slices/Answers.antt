use Rattle.rob_lex.proofs.SliceLemmas.{slices}
use Rattle.rob_lex.proofs.laws.are_slices.Goals as goal

pub returns : goal.returns
returns c = record { slices = slices }
