-- What the text before a place says of it: its line, its offset, and what is counted there.
use Rattle.std.specs.Prelude.{ℕ, ◌+◌, Bool, true, false, List, [], ◌∷◌, ◌++◌, length, drop, codes, if◌then◌else◌, ◌==◌, slice_index}
use Rattle.std.specs.Str.{bytes_eq}
use Rattle.rob_index.specs.Depths.{weight}
use Rattle.rob_lex.specs.declared.token.Kind.TheVariants.{Word, Digits, Sign, LineEnd}
use Rattle.rob_lex.specs.declared.token.Token.{Token}
use Rattle.rob_lex.specs.declared.piece.Shape.{Shape}
use Rattle.rob_lex.specs.declared.piece.Shape.TheVariants.{Lexeme}
use Rattle.rob_lex.specs.declared.place.Place.{Place}
use Rattle.rob_lex.specs.Pieces.{Piece}
use Rattle.rob_lex.specs.Weights.{total}

-- the beginning of the text, on line 1
abbrev pub start : Place
start = record { offset = 0; line = 1; count = 0; weights = []; behind_sum = false; begun = false }

-- how many parentheses are open on the line, where one directly behind the word `sum` counts as two
abbrev pub depth_at : Place → ℕ
depth_at at = total at.weights

-- as how many each counts behind a sign: an opening one is the innermost, and a closing one closes the innermost
abbrev pub weights_behind : List ℕ → Bool → List ℕ → List ℕ
weights_behind sign behind_sum weights =
    if slice_index sign 0 == 40 then weight behind_sum ∷ weights
    else (if slice_index sign 0 == 41 then drop 1 weights else weights)

-- the place behind a piece; a gap and a comment stand between no two tokens
abbrev pub behind : Place → Shape → List ℕ → Place
behind at (Lexeme LineEnd) bytes =
    record {
      offset = at.offset + length bytes;
      line = at.line + 1;
      count = at.count + 1;
      weights = [];
      behind_sum = false;
      begun = false;
    }
behind at (Lexeme Sign) bytes =
    record {
      offset = at.offset + length bytes;
      line = at.line;
      count = at.count + 1;
      weights = weights_behind bytes at.behind_sum at.weights;
      behind_sum = false;
      begun = true;
    }
behind at (Lexeme Word) bytes =
    record {
      offset = at.offset + length bytes;
      line = at.line;
      count = at.count + 1;
      weights = at.weights;
      behind_sum = bytes_eq bytes (codes "sum");
      begun = true;
    }
behind at (Lexeme Digits) bytes =
    record {
      offset = at.offset + length bytes;
      line = at.line;
      count = at.count + 1;
      weights = at.weights;
      behind_sum = false;
      begun = true;
    }
behind at _ bytes =
    record {
      offset = at.offset + length bytes;
      line = at.line;
      count = at.count;
      weights = at.weights;
      behind_sum = at.behind_sum;
      begun = at.begun;
    }

-- the token of a piece that begins at the place
abbrev pub token_at : Place → Shape → List ℕ → List Token
token_at at (Lexeme kind) bytes =
    record { kind = kind; start = at.offset; «end» = at.offset + length bytes; line = at.line } ∷ []
token_at at _ bytes = []

-- the place behind all of these pieces
abbrev pub behind_all : Place → List Piece → Place
behind_all at [] = at
behind_all at (p ∷ pieces) = behind_all (behind at p.shape p.bytes) pieces

-- the tokens among these pieces, the first of which begins at the place
abbrev pub tokens_of : Place → List Piece → List Token
tokens_of at [] = []
tokens_of at (p ∷ pieces) = token_at at p.shape p.bytes ++ tokens_of (behind at p.shape p.bytes) pieces
