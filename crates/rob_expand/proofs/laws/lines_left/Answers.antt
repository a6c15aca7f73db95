use Rattle.rob_expand.proofs.Counting.LinesLemmas.{expansion_left}
use Rattle.rob_expand.proofs.laws.lines_left.Goals as goal

pub returns : goal.returns
returns c = record { tokens = expansion_left }
