use Rattle.std.proofs.Common.{length}
use Rattle.rob_ranges.proofs.values.+long_spread.Given as goal

abbrev pub decreases-long_spread : goal.decreases-long_spread
decreases-long_spread l = length l.near.now
