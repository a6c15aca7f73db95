use Rattle.std.proofs.Common.{length}
use Rattle.rob_ranges.proofs.nest.+told_of.Given as goal

abbrev pub decreases-told_of : goal.decreases-told_of
decreases-told_of l = length l.ranges.now
