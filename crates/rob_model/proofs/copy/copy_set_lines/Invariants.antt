use Rattle.std.proofs.Common.{◌≡◌, ◌++◌, drop}
use Rattle.rob_model.proofs.copy.copy_set_lines.Given as goal

abbrev pub invariant-loop-line : goal.invariant-loop-line
invariant-loop-line g l = l.copy ++ drop l.line-index l.lines ≡ l.lines
