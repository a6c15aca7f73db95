use Rattle.std.proofs.Common.{◌≡◌, take, drop}
use Rattle.rob_syntax.specs.Symbols.{token_lines}
use Rattle.rob_syntax.proofs.WordLemmas.{prepend}
use Rattle.rob_syntax.proofs.words.front_line.Given as goal

abbrev pub invariant-loop-i : goal.invariant-loop-i
invariant-loop-i l = prepend (take l.i l.tokens) (token_lines (drop l.i l.tokens)) ≡ token_lines l.tokens
