-- What a token is in its source: its kind and its bytes.
use Rattle.std.specs.Prelude.{ℕ, ◌≤◌, List, [], ◌∷◌, ◌++◌, length, slice_range}
use Rattle.rob_lex.specs.declared.token.Kind.{Kind}
use Rattle.rob_lex.specs.declared.token.Token.{Token}
use Rattle.rob_lex.specs.declared.piece.Shape.{Shape}
use Rattle.rob_lex.specs.declared.piece.Shape.TheVariants.{Lexeme}
use Rattle.rob_lex.specs.Pieces.{Piece}

-- a token without its place
pub record Lexed : Type 0 where
  pub kind : Kind
  pub bytes : List ℕ

-- the kind and the bytes of a token of the text
abbrev pub lexed : List ℕ → Token → Lexed
lexed text t = record { kind = t.kind; bytes = slice_range text t.start t.«end» }

-- what a piece of that shape and these bytes is as a token; a gap and a comment are none
abbrev pub lexed_at : Shape → List ℕ → List Lexed
lexed_at (Lexeme kind) bytes = record { kind = kind; bytes = bytes } ∷ []
lexed_at _ bytes = []

-- the tokens among some pieces, without their places
abbrev pub lexed_of : List Piece → List Lexed
lexed_of [] = []
lexed_of (p ∷ pieces) = lexed_at p.shape p.bytes ++ lexed_of pieces

-- each token stands inside the text and behind the one before it
abbrev pub InOrder : ℕ → List ℕ → List Token → Type 0
InOrder from text [] = from ≤ length text
InOrder from text (t ∷ ts) = (from ≤ t.start) × (t.start ≤ t.«end») × InOrder t.«end» text ts
