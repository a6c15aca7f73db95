-- The texts of cases: a line's keyword, bytes with escapes, and bytes as they are shown.
use Rattle.std.specs.Prelude.{ℕ, zero, suc, ◌+◌, ◌-◌, ◌*◌, ◌/◌, ◌%◌, Bool, not, ◌&&◌, ◌==◌, nat_le, nat_lt, cond}
use Rattle.std.specs.Prelude.{List, [], ◌∷◌, ◌++◌, length, Option, Some, None, option_map, option_and_then, codes}
use Rattle.std.specs.Char.{digit_char}
use Rattle.std.specs.Fmt.{decimal}
use Rattle.std.specs.List.{before_first, after_first, position_or_len}

-- what stands in front of the first such byte of a text, or all of it
abbrev pub before : ℕ → List ℕ → List ℕ
before mark text = before_first (λ byte. byte == mark) text

-- what stands behind it, or nothing
abbrev pub behind : ℕ → List ℕ → List ℕ
behind mark text = after_first (λ byte. byte == mark) text

-- the text has such a byte
abbrev pub has_byte : ℕ → List ℕ → Bool
has_byte mark text = nat_lt (position_or_len (λ byte. byte == mark) text) (length text)

-- the keyword of a line: what stands in front of its first space
abbrev pub keyword_of : List ℕ → List ℕ
keyword_of line = before 32 line

-- and what stands behind that space
abbrev pub rest_of : List ℕ → List ℕ
rest_of line = behind 32 line

-- the value of a hexadecimal digit, 0 to 9 and a to f
abbrev pub hex_value : ℕ → Option ℕ
hex_value digit =
    cond (nat_le 48 digit && nat_le digit 57) (Some (digit - 48))
    (cond (nat_le 97 digit && nat_le digit 102) (Some (digit - 87)) None)

-- the byte that two hexadecimal digits stand for, the high one first
abbrev pub hex_byte : ℕ → ℕ → Option ℕ
hex_byte high low = option_and_then (λ h. option_map (λ l. h * 16 + l) (hex_value low)) (hex_value high)

-- the byte and then the bytes, where both are there
abbrev pub in_front : Option ℕ → Option (List ℕ) → Option (List ℕ)
in_front byte bytes = option_and_then (λ first. option_map (λ more. first ∷ more) bytes) byte

-- where reading a text with escapes stands: between two bytes, behind a `\`, or behind the first digit of its two
pub data Place : Type 0 where
  between : Place
  behind_mark : Place
  behind_digit : ℕ → Place

-- the bytes that the rest of a text spells from such a place on
abbrev pub spelled_from : Place → List ℕ → Option (List ℕ)
spelled_from between [] = Some []
spelled_from between (byte ∷ rest) =
    cond (byte == 92) (spelled_from behind_mark rest) (in_front (Some byte) (spelled_from between rest))
spelled_from behind_mark [] = None
spelled_from behind_mark (high ∷ rest) = spelled_from (behind_digit high) rest
spelled_from (behind_digit high) [] = None
spelled_from (behind_digit high) (low ∷ rest) = in_front (hex_byte high low) (spelled_from between rest)

-- the bytes that a text spells: `\` and two hexadecimal digits are one byte, and each other byte is itself; none where
-- a `\` has no two such digits behind it
abbrev pub spelled : List ℕ → Option (List ℕ)
spelled text = spelled_from between text

-- a byte that is shown as itself: a letter, digit or sign of ASCII or a space, but no `\`
abbrev pub is_plain : ℕ → Bool
is_plain byte = (nat_le 32 byte && nat_le byte 126) && not (byte == 92)

-- a byte as it is shown: as itself, or as `\` and two hexadecimal digits
abbrev pub shown_byte : ℕ → List ℕ
shown_byte byte = cond (is_plain byte) (byte ∷ []) (92 ∷ digit_char (byte / 16) ∷ digit_char (byte % 16) ∷ [])

-- bytes as they are shown
abbrev pub shown_bytes : List ℕ → List ℕ
shown_bytes [] = []
shown_bytes (byte ∷ rest) = shown_byte byte ++ shown_bytes rest

-- a text so many times
abbrev pub repeated : ℕ → List ℕ → List ℕ
repeated zero text = []
repeated (suc n) text = repeated n text ++ text

-- a line: its number between two pieces, and the line end
abbrev pub numbered : ℕ → List ℕ → List ℕ → List ℕ
numbered n front back = front ++ decimal n ++ back ++ 10 ∷ []

-- so many such lines, numbered from 0
abbrev pub all_numbered : ℕ → List ℕ → List ℕ → List ℕ
all_numbered zero front back = []
all_numbered (suc n) front back = all_numbered n front back ++ numbered n front back

-- a list of pieces with the new one behind, and such a mark between
abbrev pub joined : List ℕ → List ℕ → List ℕ → List ℕ
joined mark text piece = cond (length text == 0) piece (text ++ mark ++ piece)

-- the answer of a text that breaks a rule
abbrev pub broken_text : ℕ → ℕ → List ℕ
broken_text rule line = codes "rule " ++ decimal rule ++ codes " line " ++ decimal line
