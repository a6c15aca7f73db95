use Rattle.std.proofs.Common.{length}
use Rattle.rob_ranges.proofs.reach.+all_run.Given as goal

abbrev pub decreases-all_run : goal.decreases-all_run
decreases-all_run l = length l.ranges.now
