use Rattle.std.proofs.Common.{length}
use Rattle.rob_expand.proofs.scope.+add_nothing.Given as goal

abbrev pub decreases-add_nothing : goal.decreases-add_nothing
decreases-add_nothing l = length l.factors.now
