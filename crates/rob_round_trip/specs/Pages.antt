-- When lines of words are read as they were written, and as which symbols.
use Rattle.std.specs.Prelude.{◌≡◌, ℕ, ◌+◌, ◌-◌, ◌^◌, ◌<◌, List, [], ◌∷◌, ◌++◌, map, fold, None}
use Rattle.std.specs.List.{flat_map}
use Rattle.rob_lex.specs.declared.token.Kind.{Kind}
use Rattle.rob_lex.specs.declared.token.Kind.TheVariants as kind
use Rattle.rob_lex.specs.declared.token.Token.{Token}
use Rattle.rob_lex.specs.Offences.{most_open, AreTokens}
use Rattle.rob_meaning.specs.Places.{Each}
use Rattle.rob_syntax.specs.declared.symbol.Keyword.{Keyword}
use Rattle.rob_syntax.specs.declared.symbol.Keyword.TheVariants.{Sum, For, To, Model, Unused}
use Rattle.rob_syntax.specs.declared.symbol.Mark.TheVariants.{Open, Close}
use Rattle.rob_syntax.specs.declared.symbol.Symbol.{Symbol}
use Rattle.rob_syntax.specs.Names.{IsWord}
use Rattle.rob_write.specs.Pages.{Written, name, digits, keyword, sign, negative, line_end, bytes_of, put_line, blank}
use Rattle.rob_index.specs.Reading.{one}
use Rattle.rob_syntax.specs.Symbols.{add_word, keyword_among, keywords, word_at, symbol_at, words_of, lines_of}

-- ---- what may be written on a line
-- statements of version 1 have the keyword
abbrev pub IsUsed : Keyword → Type 0
IsUsed Sum = ⊥
IsUsed For = ⊥
IsUsed To = ⊥
IsUsed Model = ⊥
IsUsed Unused = ⊥
IsUsed _ = Unit {0}

-- what is one token inside a line: a name is a word, digits are of 64 bits, and a keyword is one that statements of
-- version 1 have
abbrev pub IsToken : Written → Type 0
IsToken (name bytes) = IsWord bytes
IsToken (digits n) = n < 2 ^ 64
IsToken (keyword k) = IsUsed k
IsToken (sign m) = Unit {0}
IsToken negative = Unit {0}
IsToken line_end = ⊥

-- what may be written inside a line: a token, and no name is a keyword
abbrev pub IsWritable : Written → Type 0
IsWritable (name bytes) = IsWord bytes × (keyword_among keywords bytes ≡ None)
IsWritable (digits n) = n < 2 ^ 64
IsWritable (keyword k) = IsUsed k
IsWritable (sign m) = Unit {0}
IsWritable negative = Unit {0}
IsWritable line_end = ⊥

-- how many parentheses are open behind what is written
abbrev pub depth_behind : ℕ → Written → ℕ
depth_behind d (sign Open) = d + 1
depth_behind d (sign Close) = d - 1
depth_behind d line_end = 0
depth_behind d _ = d

-- one more may be opened
abbrev pub MayOpen : ℕ → Written → Type 0
MayOpen d (sign Open) = d < most_open
MayOpen d _ = Unit {0}

-- few parentheses are open at once
abbrev pub IsShallow : ℕ → List Written → Type 0
IsShallow d [] = Unit {0}
IsShallow d (w ∷ ws) = MayOpen d w × IsShallow (depth_behind d w) ws

-- a line that may be written: each word is writable, and few parentheses are open at once
pub record IsLine (words : List Written) : Type 0 where
  pub writable : Each IsWritable words
  pub shallow : IsShallow 0 words

-- all that is written on some lines
abbrev pub ended : List (List Written) → List Written
ended [] = []
ended (l ∷ ls) = l ++ line_end ∷ ended ls

-- the bytes of a page of these lines
abbrev pub page_text : List (List Written) → List ℕ
page_text ls = (fold put_line blank ls).text

-- ---- as which symbols it is read
-- the kind of token that a thing is written as
abbrev pub kind_of : Written → Kind
kind_of (name bytes) = kind.Word
kind_of (digits n) = kind.Digits
kind_of (keyword k) = kind.Word
kind_of (sign m) = kind.Sign
kind_of negative = kind.Sign
kind_of line_end = kind.LineEnd

-- the different words of the lines, in order of their first places
abbrev pub words_on : List (List Written) → List (List ℕ)
words_on ls = fold add_word [] (flat_map (λ w. word_at (kind_of w) (bytes_of w)) (ended ls))

-- the symbols of a line
abbrev pub symbols_on : List (List ℕ) → List Written → List Symbol
symbols_on words line = flat_map (λ w. symbol_at one words (kind_of w) (bytes_of w)) line

-- the page of these lines has tokens, and they are the lines' symbols; behind the last line end stands an empty line
pub record IsReadAs (ls : List (List Written)) : Type 0 where
  pub tokens : List Token
  pub are_tokens : AreTokens (page_text ls) tokens
  pub words_are : words_of (page_text ls) tokens ≡ words_on ls
  pub lines_are : lines_of (page_text ls) one (words_on ls) tokens ≡ map (symbols_on (words_on ls)) ls ++ [] ∷ []
