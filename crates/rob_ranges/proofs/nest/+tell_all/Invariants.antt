use Rattle.std.proofs.Common.{length}
use Rattle.rob_ranges.proofs.nest.+tell_all.Given as goal

abbrev pub decreases-tell_all : goal.decreases-tell_all
decreases-tell_all l = length l.ranges.now
