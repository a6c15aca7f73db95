use Rattle.std.proofs.Common.{length}
use Rattle.rob_top.proofs.names.+has.Given as goal

abbrev pub decreases-has : goal.decreases-has
decreases-has l = length l.numbers.now
