-- Lists in one word, with `,` between their parts, and those of names.
use Rattle.std.specs.Prelude.{◌≡◌, ◌≤◌, ℕ, ◌==◌, Bool, List, [], ◌∷◌, length, Option, Some, None, if◌then◌else◌}
use Rattle.rob_syntax.specs.Names.{IsWord}
use Rattle.rob_syntax.specs.Symbols.{keywords, keyword_among}
use Rattle.rob_words.specs.Values.{Word}

-- a comma
abbrev pub is_comma : ℕ → Bool
is_comma byte = byte == 44

-- the words, where this byte, which is no comma, stands in front of the first
abbrev pub in_front : ℕ → List Word → List Word
in_front byte [] = (byte ∷ []) ∷ []
in_front byte (word ∷ words) = (byte ∷ word) ∷ words

-- the parts of a word between its commas, from the left; a word without a comma is its only part
abbrev pub parts_of : Word → List Word
parts_of [] = [] ∷ []
parts_of (byte ∷ bytes) = if is_comma byte then [] ∷ parts_of bytes else in_front byte (parts_of bytes)

-- those of what stands behind a comma, where one does
abbrev pub parts_behind : Option Word → List Word
parts_behind None = []
parts_behind (Some rest) = parts_of rest

-- a name as a model's text may have it, of any length: a letter or `_`, then letters, digits and `_`, and no keyword
pub record IsName (name : Word) : Type 0 where
  pub is_word : IsWord name
  pub no_keyword : keyword_among keywords name ≡ None

-- each of the words has this property
abbrev pub AreAll : (Word → Type 0) → List Word → Type 0
AreAll P [] = Unit {0}
AreAll P (word ∷ words) = P word × AreAll P words

-- the word is at most so many parts, and one at least, with `,` between them, each of which has this property
pub record IsListOf (P : Word → Type 0) (most : ℕ) (word : Word) : Type 0 where
  pub parts : AreAll P (parts_of word)
  pub few : length (parts_of word) ≤ most

-- the names or limits that a word may list
abbrev pub most_in_list : ℕ
most_in_list = 20

-- the word is 1 to 20 names with `,` between them
abbrev pub IsNameList : Word → Type 0
IsNameList word = IsListOf IsName most_in_list word
