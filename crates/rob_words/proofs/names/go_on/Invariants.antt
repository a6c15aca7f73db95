use Rattle.std.proofs.Common.{◌↔◌, drop}
use Rattle.rob_syntax.specs.Names.{GoesOn}
use Rattle.rob_words.proofs.names.go_on.Given as goal

-- the bytes that are left go on a word exactly where all do
abbrev pub invariant-loop-byte : goal.invariant-loop-byte
invariant-loop-byte l = GoesOn (drop l.byte-index l.bytes) ↔ GoesOn l.bytes
