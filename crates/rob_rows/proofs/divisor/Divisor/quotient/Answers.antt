use Rattle.std.proofs.Math.Nat.{mul-div_cancel'}
use Rattle.rob_rows.proofs.divisor.Divisor.quotient.Goals as goal

pub returns-in-None : goal.returns-in-None
returns-in-None c = record { quotient = mul-div_cancel' c.args.self.value c.requires.divides }
