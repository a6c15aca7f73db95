use Rattle.std.proofs.Common.{◌↔◌, drop, map, string_bytes}
use Rattle.rob_words.specs.Texts.{AreAdmitted}
use Rattle.rob_words.proofs.admission.are_admitted.Given as goal

-- the words that are left are admitted exactly where all are
abbrev pub invariant-loop-word : goal.invariant-loop-word
invariant-loop-word l =
    AreAdmitted (map string_bytes (drop l.word-index l.words)) ↔ AreAdmitted (map string_bytes l.words)
