use Rattle.rob_dualize.proofs.SizeLemmas.{few_within_limits}
use Rattle.rob_dualize.proofs.laws.size_laws.Goals as goal

pub returns : goal.returns
returns c = record { few = few_within_limits }
