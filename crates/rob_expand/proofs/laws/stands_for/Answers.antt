use Rattle.rob_expand.proofs.Values.PlacingLemmas.{placed_is}
use Rattle.rob_expand.proofs.laws.stands_for.Goals as goal

pub returns : goal.returns
returns c = record { plain = placed_is }
