-- From the tokens of a text to its lines of symbols: keywords and signs are told apart, a name is the number of its
-- word, and digits are their value.
use Rattle.std.specs.Prelude.{ℕ, ◌+◌, ◌*◌, ◌-◌, ◌^◌, min, nat_le, Bool, true, List, [], ◌∷◌, ◌++◌, length, map, fold, position, Option, Some, None, unwrap_or, if◌then◌else◌, slice_range, codes}
use Rattle.std.specs.Str.{bytes_eq}
use Rattle.std.specs.List.{list_any, flat_map}
use Rattle.rob_index.specs.Reading.{Version, one, two}
use Rattle.rob_lex.specs.declared.token.Token.{Token}
use Rattle.rob_lex.specs.declared.token.Kind.{Kind}
use Rattle.rob_lex.specs.declared.token.Kind.TheVariants as kind
use Rattle.rob_syntax.specs.declared.symbol.Symbol.{Symbol}
use Rattle.rob_syntax.specs.declared.symbol.Symbol.TheVariants.{Name, Digits, Sign, Reserved}
use Rattle.rob_syntax.specs.declared.symbol.Mark.{Mark}
use Rattle.rob_syntax.specs.declared.symbol.Mark.TheVariants.{Plus, Minus, Star, Slash, Open, Close, OpenBracket, CloseBracket, Comma, Colon, Equal, AtMost, AtLeast}
use Rattle.rob_syntax.specs.declared.symbol.Keyword.{Keyword}
use Rattle.rob_syntax.specs.declared.symbol.Keyword.TheVariants.{Uncertain, Set, Budget, Var, Adaptive, Minimise, Maximise, Row, In, At, By, Over, Sum, For, To, Model, Unused}

-- The keywords, in each version: none of them is a name in either. No statement of version 1 has `sum`, `for` or `to`.
-- `model` names the version, and no statement has it; `objective` and `tau` stand in no text.
abbrev pub keywords : List (List ℕ × Keyword)
keywords =
    (codes "uncertain", Uncertain) ∷ (codes "set", Set) ∷ (codes "budget", Budget) ∷ (codes "var", Var)
    ∷ (codes "adaptive", Adaptive) ∷ (codes "minimise", Minimise) ∷ (codes "minimize", Minimise)
    ∷ (codes "maximise", Maximise) ∷ (codes "maximize", Maximise)
    ∷ (codes "row", Row) ∷ (codes "in", In) ∷ (codes "at", At) ∷ (codes "by", By) ∷ (codes "over", Over)
    ∷ (codes "objective", Unused) ∷ (codes "tau", Unused) ∷ (codes "model", Model)
    ∷ (codes "sum", Sum) ∷ (codes "for", For) ∷ (codes "to", To) ∷ []

-- the keyword beside the word in the table
abbrev pub keyword_among : List (List ℕ × Keyword) → List ℕ → Option Keyword
keyword_among [] bytes = None
keyword_among (k ∷ ks) bytes = if bytes_eq bytes k.0 then Some k.1 else keyword_among ks bytes

-- the bytes that a name may have
abbrev pub longest_name : ℕ
longest_name = 32

-- the number of a word among the different words of the text
abbrev pub number_of : List (List ℕ) → List ℕ → ℕ
number_of words word = unwrap_or (position (bytes_eq word) words) 0

-- Whether a word that is no keyword is a name. In version 1 it is one where it isn't too long. In version 2 each is
-- one: there the names of the plain statements that a line stands for have a length to keep.
abbrev pub is_name : Version → List ℕ → Bool
is_name one word = nat_le (length word) longest_name
is_name two word = true

-- a keyword, or a name
abbrev pub word_symbol : Version → List (List ℕ) → List ℕ → Option Keyword → Symbol
word_symbol version words word (Some k) = Reserved k
word_symbol version words word None = if is_name version word then Name (number_of words word) else Reserved Unused

-- the value of a run of digits, decimal
abbrev pub value_of : List ℕ → ℕ
value_of = fold (λ value b. 10 * value + (b - 48)) 0

-- digits of a value over 2^62 count as 2^62, which is over every limit of a number
abbrev pub greatest_digits : ℕ
greatest_digits = 2 ^ 62

-- a sign by its first byte
abbrev pub mark_of : ℕ → Mark
mark_of b =
    if bytes_eq (b ∷ []) (codes "+") then Plus else (if bytes_eq (b ∷ []) (codes "-") then Minus
    else (if bytes_eq (b ∷ []) (codes "*") then Star else (if bytes_eq (b ∷ []) (codes "/") then Slash
    else (if bytes_eq (b ∷ []) (codes "(") then Open else (if bytes_eq (b ∷ []) (codes ")") then Close
    else (if bytes_eq (b ∷ []) (codes "[") then OpenBracket else (if bytes_eq (b ∷ []) (codes "]") then CloseBracket
    else (if bytes_eq (b ∷ []) (codes ",") then Comma else (if bytes_eq (b ∷ []) (codes ":") then Colon
    else (if bytes_eq (b ∷ []) (codes "=") then Equal
    else (if bytes_eq (b ∷ []) (codes "<") then AtMost else AtLeast)))))))))))

-- the first byte
abbrev pub first_of : List ℕ → ℕ
first_of [] = 0
first_of (b ∷ _) = b

-- the symbol of a token's kind and bytes; a line end has none
abbrev pub symbol_at : Version → List (List ℕ) → Kind → List ℕ → List Symbol
symbol_at version words kind.Word bytes = word_symbol version words bytes (keyword_among keywords bytes) ∷ []
symbol_at version words kind.Digits bytes = Digits (min (value_of bytes) greatest_digits) ∷ []
symbol_at version words kind.Sign bytes = Sign (mark_of (first_of bytes)) ∷ []
symbol_at version words kind.LineEnd bytes = []

-- the word that a token is, if it is one
abbrev pub word_at : Kind → List ℕ → List (List ℕ)
word_at kind.Word bytes = bytes ∷ []
word_at _ bytes = []

-- one more word, unless it is there
abbrev pub add_word : List (List ℕ) → List ℕ → List (List ℕ)
add_word words word = if list_any (bytes_eq word) words then words else words ++ word ∷ []

-- the lines of some tokens with one token in front: it is the first of the first line, or ends a line
abbrev pub add_token : Kind → Token → List (List Token) → List (List Token)
add_token kind.LineEnd t lines = [] ∷ lines
add_token _ t [] = (t ∷ []) ∷ []
add_token _ t (line ∷ lines) = (t ∷ line) ∷ lines

-- the lines of some tokens: one more than there are line ends
abbrev pub token_lines : List Token → List (List Token)
token_lines [] = [] ∷ []
token_lines (t ∷ ts) = add_token t.kind t (token_lines ts)

module _ (text : List ℕ) where
  -- the bytes of a token
  abbrev pub bytes_of : Token → List ℕ
  bytes_of t = slice_range text t.start t.«end»

  -- the word that a token of the text is, if it is one
  abbrev pub word_in : Token → List (List ℕ)
  word_in t = word_at t.kind (bytes_of t)

  -- the different words of the text, in order of their first places
  abbrev pub words_of : List Token → List (List ℕ)
  words_of tokens = fold add_word [] (flat_map word_in tokens)

  -- the symbols of some tokens
  abbrev pub symbols_of : Version → List (List ℕ) → List Token → List Symbol
  symbols_of version words tokens = flat_map (λ (t : Token). symbol_at version words t.kind (bytes_of t)) tokens

  -- the lines of symbols
  abbrev pub lines_of : Version → List (List ℕ) → List Token → List (List Symbol)
  lines_of version words tokens = map (symbols_of version words) (token_lines tokens)
