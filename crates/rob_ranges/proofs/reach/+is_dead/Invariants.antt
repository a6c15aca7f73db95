use Rattle.std.proofs.Common.{length}
use Rattle.rob_ranges.proofs.reach.+is_dead.Given as goal

abbrev pub decreases-is_dead : goal.decreases-is_dead
decreases-is_dead l = length l.ranges.now
