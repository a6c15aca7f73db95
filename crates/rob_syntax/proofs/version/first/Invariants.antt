use Rattle.std.proofs.Common.{◌≡◌, drop}
use Rattle.rob_syntax.specs.Symbols.{token_lines}
use Rattle.rob_syntax.specs.Versions.{first_line}
use Rattle.rob_syntax.proofs.version.first.Given as goal

abbrev pub invariant-loop-i : goal.invariant-loop-i
invariant-loop-i l = first_line (token_lines (drop l.i l.tokens)) ≡ first_line (token_lines l.tokens)
