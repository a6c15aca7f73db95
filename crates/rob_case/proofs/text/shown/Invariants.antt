use Rattle.std.proofs.Common.{◌≡◌, ◌++◌, drop, string_bytes}
use Rattle.rob_case.specs.Texts.{shown_bytes}
use Rattle.rob_case.proofs.text.shown.Given as goal

abbrev pub invariant-loop-byte : goal.invariant-loop-byte
invariant-loop-byte l = string_bytes l.text ++ shown_bytes (drop l.byte-index l.bytes) ≡ shown_bytes l.bytes
