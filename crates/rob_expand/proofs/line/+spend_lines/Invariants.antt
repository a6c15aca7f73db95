use Rattle.std.proofs.Common.{length}
use Rattle.rob_expand.proofs.line.+spend_lines.Given as goal

abbrev pub decreases-spend_lines : goal.decreases-spend_lines
decreases-spend_lines l = length l.settings.now
