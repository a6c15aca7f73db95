use Rattle.std.proofs.Common.{length}
use Rattle.rob_expand.proofs.scope.+put_starts.Given as goal

abbrev pub decreases-put_starts : goal.decreases-put_starts
decreases-put_starts l = length l.bound.now
