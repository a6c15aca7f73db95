use Rattle.std.proofs.Common.{length}
use Rattle.rob_places.proofs.walk.+inside.Given as goal

abbrev pub decreases-inside : goal.decreases-inside
decreases-inside l = length l.own.now
