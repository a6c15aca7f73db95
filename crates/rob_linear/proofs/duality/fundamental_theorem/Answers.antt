use Rattle.rob_linear.proofs.Meaning.Fundamental.{fundamental_theorem}
use Rattle.rob_linear.proofs.duality.fundamental_theorem.Goals as goal

pub returns : goal.returns
returns c = record { status = fundamental_theorem }
