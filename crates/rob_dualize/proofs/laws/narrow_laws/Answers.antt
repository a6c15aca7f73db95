use Rattle.rob_dualize.proofs.SolvingLemmas.{narrow_same}
use Rattle.rob_dualize.proofs.laws.narrow_laws.Goals as goal

pub returns : goal.returns
returns c = record { same = narrow_same }
