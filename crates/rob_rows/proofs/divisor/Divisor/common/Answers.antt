use Rattle.std.proofs.Common.{rules, sym}
use Rattle.rob_rows.proofs.Divisors.{gcd-divides}
use Rattle.rob_rows.proofs.divisor.Divisor.common.Goals as goal

pub returns-then-divides : goal.returns-then-divides
returns-then-divides c =
    record { common = sym (gcd-divides c.args.self.value c.args.whole (c.if-divides.ensures.divides.0 (search rules))) }
