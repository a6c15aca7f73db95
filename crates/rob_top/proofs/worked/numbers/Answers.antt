use Rattle.rob_top.proofs.ByHand.WorkedNumbers.{number_is_answered}
use Rattle.rob_top.proofs.worked.numbers.Goals as goal

pub returns : goal.returns
returns c = record { generated = number_is_answered }
