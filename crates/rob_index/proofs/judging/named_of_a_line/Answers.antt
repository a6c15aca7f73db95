use Rattle.rob_index.proofs.Faults.SearchLemmas.{named_first, named_some}
use Rattle.rob_index.proofs.judging.named_of_a_line.Goals as goal

pub returns : goal.returns
returns c = record { first = named_first; some = named_some }
