use Rattle.std.proofs.Common.{length}
use Rattle.rob_settings.proofs.spot.+append_spots.Given as goal

abbrev pub decreases-append_spots : goal.decreases-append_spots
decreases-append_spots l = length l.settings.now
