use Rattle.rob_parse.proofs.Sizes.LimitLemmas.{within_limits, counted_is}
use Rattle.rob_parse.proofs.laws.within_limits.Goals as goal

pub returns : goal.returns
returns c = record { limits = within_limits; counted = counted_is }
