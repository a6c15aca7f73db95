use Rattle.std.proofs.Common.{◌≡◌, ◌++◌, drop}
use Rattle.rob_syntax.specs.Known.{texts}
use Rattle.rob_syntax.specs.Symbols.{symbols_of}
use Rattle.rob_syntax.specs.Versions.{seen_version}
use Rattle.rob_syntax.proofs.words.symbols.Given as goal

abbrev pub invariant-loop-token : goal.invariant-loop-token
invariant-loop-token l =
    l.symbols.items ++ symbols_of l.text (seen_version l.version) (texts l.words.keys) (drop l.token-index l.tokens)
    ≡ symbols_of l.text (seen_version l.version) (texts l.words.keys) l.tokens
