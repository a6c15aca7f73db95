use Rattle.std.proofs.Common.{length}
use Rattle.rob_commands.proofs.paths.+put_path.Given as goal

abbrev pub decreases-put_path : goal.decreases-put_path
decreases-put_path g l = length l.path.now
