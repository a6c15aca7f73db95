use Rattle.std.proofs.Common.{length}
use Rattle.rob_places.proofs.walk.+item.Given as goal

abbrev pub decreases-item : goal.decreases-item
decreases-item l = length l.own.ranges.now
