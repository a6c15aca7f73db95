use Rattle.std.proofs.Common.{◌≡◌, drop}
use Rattle.std.specs.Prelude.{fold}
use Rattle.std.specs.List.{flat_map}
use Rattle.rob_syntax.specs.Known.{texts}
use Rattle.rob_syntax.specs.Symbols.{add_word, word_in, words_of}
use Rattle.rob_syntax.proofs.words.collect_words.Given as goal

abbrev pub invariant-loop-token : goal.invariant-loop-token
invariant-loop-token l =
    fold add_word (texts l.words.keys) (flat_map (word_in l.text) (drop l.token-index l.tokens))
    ≡ words_of l.text l.tokens
