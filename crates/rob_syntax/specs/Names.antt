-- Which names may be declared: words that are no keywords, and not too long.
use Rattle.std.specs.Prelude.{◌≡◌, ℕ, ◌≤◌, true, List, [], ◌∷◌, length, None}
use Rattle.rob_lex.specs.Bytes.{begins_word, goes_on_word}
use Rattle.rob_syntax.specs.Symbols.{keywords, keyword_among, longest_name}

-- each byte goes on a word
abbrev pub GoesOn : List ℕ → Type 0
GoesOn [] = Unit {0}
GoesOn (b ∷ bytes) = (goes_on_word b ≡ true) × GoesOn bytes

-- a letter or `_`, and then letters, digits and `_`
abbrev pub IsWord : List ℕ → Type 0
IsWord [] = ⊥
IsWord (b ∷ bytes) = (begins_word b ≡ true) × GoesOn bytes

-- a name that may be declared: a word that is no keyword, and not too long
pub record IsSpelled (name : List ℕ) : Type 0 where
  pub is_word : IsWord name
  pub no_keyword : keyword_among keywords name ≡ None
  pub is_short : length name ≤ longest_name
