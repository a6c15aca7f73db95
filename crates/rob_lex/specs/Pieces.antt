-- A text is cut into pieces: tokens, comments and separating bytes. A piece is as long as possible (longest match: Aho,
-- Lam, Sethi, Ullman, Compilers (2006), chapter 3), so it is told apart by its bytes and by the byte behind it.
use Rattle.std.specs.Prelude.{◌≡◌, ℕ, Bool, true, false, List, [], ◌∷◌, ◌++◌}
use Rattle.rob_lex.specs.declared.token.Kind.{Kind}
use Rattle.rob_lex.specs.declared.token.Kind.TheVariants.{Word, Digits, Sign, LineEnd}
use Rattle.rob_lex.specs.declared.piece.Shape.{Shape}
use Rattle.rob_lex.specs.declared.piece.Shape.TheVariants.{Lexeme, Gap, Comment}
use Rattle.rob_lex.specs.Bytes.{begins_word, goes_on_word, is_digit, is_no_line_end, is_gap, is_short_sign, begins_long_sign}

-- a longest run: the bytes pass the test, and the bytes behind them begin with none that does
abbrev pub IsRun : (ℕ → Bool) → List ℕ → List ℕ → Type 0
IsRun test (b ∷ bytes) after = (test b ≡ true) × IsRun test bytes after
IsRun test [] (b ∷ after) = test b ≡ false
IsRun test [] [] = Unit {0}

-- these bytes are a piece of that shape, where `after` stands behind them: the table of tokens, a line a row
abbrev pub Stands : Shape → List ℕ → List ℕ → Type 0
Stands (Lexeme Word) (b ∷ bytes) after = (begins_word b ≡ true) × IsRun goes_on_word bytes after
Stands (Lexeme Digits) (b ∷ bytes) after = (is_digit b ≡ true) × IsRun is_digit bytes after
Stands (Lexeme Sign) (b ∷ []) after = is_short_sign b ≡ true
Stands (Lexeme Sign) (b ∷ c ∷ []) after = (begins_long_sign b ≡ true) × (c ≡ 61)
Stands (Lexeme LineEnd) (b ∷ []) after = b ≡ 10
Stands Comment (b ∷ bytes) after = (b ≡ 35) × IsRun is_no_line_end bytes after
Stands Gap (b ∷ []) after = is_gap b ≡ true
Stands _ _ after = ⊥

-- a piece: its shape and its bytes
pub record Piece : Type 0 where
  pub shape : Shape
  pub bytes : List ℕ

-- a place of the text: the text is these pieces and then the rest
abbrev pub IsPlace : List ℕ → List Piece → List ℕ → Type 0
IsPlace text [] rest = text ≡ rest
IsPlace text (p ∷ pieces) rest =
    (after : List ℕ) × (text ≡ p.bytes ++ after) × Stands p.shape p.bytes after × IsPlace after pieces rest

-- no piece stands at the front of these bytes
abbrev pub BeginsNoPiece : List ℕ → Type 0
BeginsNoPiece rest =
    (shape : Shape) (bytes after : List ℕ) → rest ≡ bytes ++ after → Stands shape bytes after → ⊥

-- a token stands at the front of these bytes
abbrev pub BeginsToken : List ℕ → Type 0
BeginsToken rest =
    (kind : Kind) × (bytes : List ℕ) × (after : List ℕ) × (rest ≡ bytes ++ after) × Stands (Lexeme kind) bytes after
