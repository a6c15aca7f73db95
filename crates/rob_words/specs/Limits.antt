-- Limits of a budget in a word: one, or several with `,` between them. A limit is a number as a model's text has it:
-- digits, or digits over digits.
use Rattle.std.specs.Prelude.{◌≢◌, ◌≡◌, ◌⊎◌, ◌==◌, ℕ, ◌<◌, ◌≤◌, Bool, length, if◌then◌else◌, ltb}
use Rattle.std.specs.List.{after_first, before_first, position_or_len}
use Rattle.std.specs.Str.Parse.{IsNumeral, digits_value}
use Rattle.rob_words.specs.Names.{IsListOf, most_in_list}
use Rattle.rob_words.specs.Values.{Word}

-- a slash
abbrev pub is_slash : ℕ → Bool
is_slash byte = byte == 47

-- some byte of the word is a slash
abbrev pub HasSlash : Word → Type 0
HasSlash word = position_or_len is_slash word < length word

-- what stands in front of the first slash; the whole word, where it has none
abbrev pub above : Word → Word
above word = before_first is_slash word

-- what stands behind it
abbrev pub below : Word → Word
below word = after_first is_slash word

-- decimal digits, one or more, whose number is at most the greatest one; the first may be zeros
pub record IsWhole (greatest : ℕ) (word : Word) : Type 0 where
  pub digits : IsNumeral 10 word
  pub fits : digits_value 10 word ≤ greatest

-- the same, and not 0
pub record IsDivisor (greatest : ℕ) (word : Word) : Type 0 where
  pub whole : IsWhole greatest word
  pub some : digits_value 10 word ≢ 0

-- a limit: a whole number, or one over another with a slash between them
abbrev pub IsLimit : ℕ → Word → Type 0
IsLimit greatest word =
    (position_or_len is_slash word ≡ length word) × IsWhole greatest word
    ⊎ HasSlash word × (IsWhole greatest (above word) × IsDivisor greatest (below word))

-- its numerator
abbrev pub numerator_of : Word → ℕ
numerator_of word = digits_value 10 (above word)

-- its denominator: 1, where it has no slash
abbrev pub denominator_of : Word → ℕ
denominator_of word = if ltb (position_or_len is_slash word) (length word) then digits_value 10 (below word) else 1

-- the word is 1 to 20 limits with `,` between them
abbrev pub IsLimitList : ℕ → Word → Type 0
IsLimitList greatest word = IsListOf (IsLimit greatest) most_in_list word
