use Rattle.std.proofs.Common.{◌≡◌, ◌+◌, false, length}
use Rattle.rob_syntax.specs.Known.{texts}
use Rattle.rob_syntax.specs.Symbols.{token_lines}
use Rattle.rob_syntax.specs.Versions.{seen_version}
use Rattle.rob_syntax.proofs.WordLemmas.{left}
use Rattle.rob_rules.proofs.Steps.MoreLines.{symbols_in}
use Rattle.rob_rules.proofs.Steps.StageLemmas.{HasRead}
use Rattle.rob_rules.proofs.lines.Reader.read_lines.Given as goal

abbrev pub invariant-loop-rest : goal.invariant-loop-rest
invariant-loop-rest l = record {
  count : l.line + length (left l.rest) ≡ length (token_lines l.fn.tokens);
  progress : HasRead l.limit (texts l.fn.self.own.keys) (seen_version l.version)
      (symbols_in l.text (texts l.fn.self.own.keys) (seen_version l.version) false (token_lines l.fn.tokens))
      (symbols_in l.text (texts l.fn.self.own.keys) (seen_version l.version) l.begun (left l.rest))
      l.line l.fn.self l.self;
}

abbrev pub decreases-loop-rest : goal.decreases-loop-rest
decreases-loop-rest l = length (left l.rest)
