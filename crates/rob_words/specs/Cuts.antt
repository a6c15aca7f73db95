-- Cuts in a word: one, or several with `,` between them. A cut is a parameter's name and a number, with `=` between
-- them.
use Rattle.std.specs.Prelude.{◌==◌, ◌≡◌, ◌<◌, ℕ, Bool, false, [], ◌∷◌, length, if◌then◌else◌}
use Rattle.std.specs.List.{after_first, before_first, position_or_len}
use Rattle.rob_words.specs.Limits.{IsLimit, denominator_of, numerator_of}
use Rattle.rob_words.specs.Names.{IsListOf, IsName}
use Rattle.rob_words.specs.Values.{Word}
use Rattle.rob_words.specs.declared.cuts.CutWord.{CutWord}

-- ---- a number with or without a sign

-- the number is below 0, or it is 0 with a sign: it begins with `-`
abbrev pub has_sign : Word → Bool
has_sign [] = false
has_sign (byte ∷ bytes) = byte == 45

-- the number without its sign
abbrev pub unsigned : Word → Word
unsigned [] = []
unsigned (byte ∷ bytes) = if byte == 45 then bytes else byte ∷ bytes

-- it is a number as limits are, and a `-` may stand in front of it
abbrev pub IsSigned : ℕ → Word → Type 0
IsSigned greatest word = IsLimit greatest (unsigned word)

-- ---- a cut

-- the byte between name and number
abbrev pub is_equals : ℕ → Bool
is_equals byte = byte == 61

-- what stands in front of the first one: the parameter's name
abbrev pub cut_name : Word → Word
cut_name word = before_first is_equals word

-- what stands behind it: the number
abbrev pub cut_level : Word → Word
cut_level word = after_first is_equals word

-- the word is a cut
pub record IsCut (greatest : ℕ) (word : Word) : Type 0 where
  pub equals : position_or_len is_equals word < length word
  pub name : IsName (cut_name word)
  pub level : IsSigned greatest (cut_level word)

-- this is what it says
pub record SpellsCut (word : Word) (cut : CutWord) : Type 0 where
  pub name : cut.name.now ≡ cut_name word
  pub sign : cut.negative ≡ has_sign (cut_level word)
  pub numerator : cut.numerator ≡ numerator_of (unsigned (cut_level word))
  pub denominator : cut.denominator ≡ denominator_of (unsigned (cut_level word))

-- the word is 1 to 3 cuts with `,` between them
abbrev pub IsCutList : ℕ → Word → Type 0
IsCutList greatest word = IsListOf (IsCut greatest) 3 word
