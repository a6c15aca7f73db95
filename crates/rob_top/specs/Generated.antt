-- The answer of `text`.
use Rattle.std.specs.Prelude.{◌≡◌, ℕ, List, Some}
use Rattle.rob_gen.specs.Generated.{generated}
use Rattle.rob_top.specs.Calls.{Call}
use Rattle.rob_top.specs.Files.{word_of}
use Rattle.rob_words.specs.Commands.{Line, IsSpelled}
use Rattle.rob_words.specs.Kinds.{number_of}
use Rattle.rob_words.specs.Values.{Word}
use Rattle.rob_words.specs.Verbs.{own_of}
use Rattle.rob_words.specs.declared.verb.Own.TheVariants as own
use Rattle.rob_words.specs.declared.verb.Verb.TheVariants.{Text}
use Rattle.rob_write.specs.Canonical.{model_text}

-- the command line's own word that is a number spells this one
pub record TellsNumber (line : Line) (number : ℕ) : Type 0 where
  pub word : Word
  pub told : word_of own.Number (own_of line.verb) line.own ≡ Some word
  pub spells : number ≡ number_of word

-- the canonical text of the number's model is printed
pub record IsGenerated (call : Call) (text : List ℕ) : Type 0 where
  pub line : Line
  pub spelled : IsSpelled call.words line
  pub is_text : line.verb ≡ Text
  pub number : ℕ
  pub told : TellsNumber line number
  pub printed : text ≡ model_text (generated number)
