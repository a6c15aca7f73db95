use Rattle.rob_top.proofs.ByHand.WorkedSplitTexts.{split_is_taken}
use Rattle.rob_top.proofs.worked.split_text.Goals as goal

pub returns : goal.returns
returns c = record { taken = split_is_taken }
