use Rattle.rob_rows.proofs.Divisors.{divides_by_remainder}
use Rattle.rob_rows.proofs.divisor.Divisor.divides.Goals as goal

pub returns-else-is_some : goal.returns-else-is_some
returns-else-is_some c = record { divides = divides_by_remainder c.args.self.value c.args.whole }
