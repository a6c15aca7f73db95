use Rattle.std.proofs.Common.{nat_abs}
use Rattle.rob_number.proofs.CastLemmas.{seen_small, within_limit}
use Rattle.rob_quick.proofs.quick.Quick.numerator.Goals as goal

pub returns-clause-size : goal.returns-clause-size
returns-clause-size g c = seen_small c.num.result (within_limit g.row.B (nat_abs c.num.result) c.num.ensures.within)
