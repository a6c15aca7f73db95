-- The classes of bytes of a model text, which is ASCII outside its comments.
use Rattle.std.specs.Prelude.{ℕ, Bool, ◌||◌, ◌&&◌, ◌==◌, nat_le, not}
-- a digit, 48 to 57
pub use Rattle.std.specs.Char.{is_ascii_digit as is_digit}

-- a letter (97 to 122, 65 to 90) or `_` (95)
abbrev pub begins_word : ℕ → Bool
begins_word b = (nat_le 97 b && nat_le b 122) || (nat_le 65 b && nat_le b 90) || b == 95

-- a letter, a digit or `_`
abbrev pub goes_on_word : ℕ → Bool
goes_on_word b = begins_word b || is_digit b

-- any byte but LF: what a comment consists of
abbrev pub is_no_line_end : ℕ → Bool
is_no_line_end b = not (b == 10)

-- space, tab and CR
abbrev pub is_gap : ℕ → Bool
is_gap b = b == 32 || b == 9 || b == 13

-- `(` `)` `*` `+` `,` `-` (40 to 45), `/`, `:`, `=`, `[` and `]`
abbrev pub is_short_sign : ℕ → Bool
is_short_sign b =
    (nat_le 40 b && nat_le b 45) || b == 47 || b == 58 || b == 61 || b == 91 || b == 93

-- `<` and `>`, which are signs only with `=` behind them
abbrev pub begins_long_sign : ℕ → Bool
begins_long_sign b = b == 60 || b == 62
