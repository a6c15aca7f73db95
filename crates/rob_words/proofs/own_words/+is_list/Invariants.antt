use Rattle.std.proofs.Common.{length}
use Rattle.rob_words.proofs.own_words.+is_list.Given as goal

abbrev pub decreases-is_list : goal.decreases-is_list
decreases-is_list l = length l.word.now
