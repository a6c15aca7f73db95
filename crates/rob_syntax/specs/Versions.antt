-- The version of a text, and what is read of its lines: the line that names the version is none.
use Rattle.std.specs.Prelude.{◌&&◌, ◌||◌, not, ℕ, Bool, true, false, List, [], ◌∷◌, map, if◌then◌else◌}
use Rattle.rob_index.specs.Reading.{Version, one, two, version_of, is_version_line}
use Rattle.rob_lex.specs.declared.token.Token.{Token}
use Rattle.rob_syntax.specs.declared.symbol.Symbol.{Symbol}
use Rattle.rob_syntax.specs.declared.version.Version.{Version as Known}
use Rattle.rob_syntax.specs.declared.version.Version.TheVariants as known
use Rattle.rob_syntax.specs.Symbols.{bytes_of, symbols_of, token_lines}

-- the code's version as the definitions have it
abbrev pub seen_version : Known → Version
seen_version known.One = one
seen_version known.Two = two

-- a token stands on the line
abbrev pub has_token : List Token → Bool
has_token [] = false
has_token (t ∷ ts) = true

-- the first line with a token; none where none has
abbrev pub first_line : List (List Token) → List Token
first_line [] = []
first_line ([] ∷ lines) = first_line lines
first_line ((t ∷ ts) ∷ lines) = t ∷ ts

module _ (text : List ℕ) where
  -- the bytes of the tokens of a line
  abbrev pub line_bytes : List Token → List (List ℕ)
  line_bytes line = map (bytes_of text) line

  -- the line is `model 2`
  abbrev pub names_version : List Token → Bool
  names_version line = is_version_line (line_bytes line)

  -- the version of a text with these tokens
  abbrev pub text_version : List Token → Version
  text_version tokens = version_of (map line_bytes (token_lines tokens))

  -- what is read of a line: nothing of one that names the version, where no line with a token has begun before it
  abbrev pub body_line : (begun : Bool) → List Token → List Token
  body_line begun line = if not begun && names_version line then [] else line

  -- what is read of the lines of tokens, in front of which a line with a token has begun or hasn't
  abbrev pub body : (begun : Bool) → List (List Token) → List (List Token)
  body begun [] = []
  body begun (line ∷ lines) = body_line begun line ∷ body (begun || has_token line) lines

  -- the lines of symbols of a text with these words and tokens, of its version
  abbrev pub text_lines : List (List ℕ) → List Token → List (List Symbol)
  text_lines words tokens = map (symbols_of text (text_version tokens) words) (body false (token_lines tokens))
