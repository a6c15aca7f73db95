use Rattle.rob_number.proofs.CastLemmas.{seen_small, within_limit}
use Rattle.rob_number.proofs.fraction.Frac.denominator.Goals as goal
use Rattle.std.proofs.Common.{nat_abs}

pub returns-clause-size : goal.returns-clause-size
returns-clause-size g c =
    seen_small c.args.self.den (within_limit g.row.B (nat_abs c.args.self.den) c.args.self.lowest.den_fits)
