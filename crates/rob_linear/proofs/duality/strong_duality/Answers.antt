use Rattle.rob_linear.proofs.Meaning.Fundamental.{strong_duality}
use Rattle.rob_linear.proofs.duality.strong_duality.Goals as goal

pub returns : goal.returns
returns c = record { equal = strong_duality }
