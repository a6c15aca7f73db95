-- The lines of a text's tokens, each token as what it is for the parentheses that are open.
use Rattle.std.specs.Prelude.{ℕ, ◌≤◌, ◌==◌, false, List, [], ◌∷◌, ◌++◌, codes, if◌then◌else◌, slice_index}
use Rattle.std.specs.Str.{bytes_eq}
use Rattle.rob_index.specs.Depths.{deepest}
use Rattle.rob_index.specs.Symbols.{Symbol, digits, sign, word}
use Rattle.rob_index.specs.Symbols as is
use Rattle.rob_lex.specs.Offences.{most_open}
use Rattle.rob_lex.specs.Slices.{Lexed}
use Rattle.rob_lex.specs.declared.token.Kind.{Kind}
use Rattle.rob_lex.specs.declared.token.Kind.TheVariants.{Word, Digits, Sign, LineEnd}

-- a parenthesis, or another sign
abbrev pub paren_sign : List ℕ → Symbol
paren_sign bytes =
    if slice_index bytes 0 == 40 then sign is.opening
    else (if slice_index bytes 0 == 41 then sign is.closing else digits 0)

-- a token's symbol as `deepest` looks at it: the word `sum`, a parenthesis, or something else; a line end is none
abbrev pub paren_symbol : Kind → List ℕ → List Symbol
paren_symbol Word bytes = (if bytes_eq bytes (codes "sum") then word is.sum else digits 0) ∷ []
paren_symbol Digits bytes = digits 0 ∷ []
paren_symbol Sign bytes = paren_sign bytes ∷ []
paren_symbol LineEnd bytes = []

-- one more token in front of some lines
abbrev pub in_front : Kind → List Symbol → List (List Symbol) → List (List Symbol)
in_front LineEnd symbols lines = [] ∷ lines
in_front _ symbols [] = symbols ∷ []
in_front _ symbols (l ∷ lines) = (symbols ++ l) ∷ lines

-- the lines of some tokens: one more than there are line ends
abbrev pub paren_lines : List Lexed → List (List Symbol)
paren_lines [] = [] ∷ []
paren_lines (x ∷ xs) = in_front x.kind (paren_symbol x.kind x.bytes) (paren_lines xs)

-- no line opens too many at once
abbrev pub AreShallow : List (List Symbol) → Type 0
AreShallow [] = Unit {0}
AreShallow (l ∷ lines) = (deepest 0 [] false l ≤ most_open) × AreShallow lines
