use Rattle.rob_reach.proofs.WholeNumberLemmas.{floor_law, ceiling_law, whole_law}
use Rattle.rob_reach.proofs.whole_numbers.whole_number_laws.Goals as goal

pub returns : goal.returns
returns c = record { floor = floor_law; ceiling = ceiling_law; whole = whole_law }
