-- What the steps of the reader answer.
use Rattle.std.specs.Prelude.{◌≡◌, List, ◌∷◌, Result, MatchResult}
use Rattle.rob_words.specs.Values.{Word}
use Rattle.rob_words.specs.Commands.{Says}
use Rattle.rob_words.specs.Verbs.{verb_word}
use Rattle.rob_words.specs.declared.error.WordsErr.{WordsErr}
use Rattle.rob_words.specs.declared.verb.Verb.{Verb}

-- the words begin with the name of a command, or with none
abbrev pub Names : List Word → Result Verb WordsErr → Type 0
Names words result = MatchResult result
    (λ verb. (more : List Word) × (words ≡ verb_word verb ∷ more))
    (λ e. (verb : Verb) (more : List Word) → words ≡ verb_word verb ∷ more → ⊥)

-- the values of an option say this, or they say nothing
abbrev pub Judges : {X : Type 0} → (X → Word) → X → List Word → Result X WordsErr → Type 0
Judges {X} text default values result = MatchResult result
    (Says text default values)
    (λ e. (x : X) → Says text default values x → ⊥)
