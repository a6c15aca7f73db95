-- A page is read as the lines of symbols that were written on it.
use Rattle.std.proofs.Common.{◌≡◌, ℕ, ◌≤◌, List, [], ◌∷◌, ◌++◌, length, map, refl, sym, ap, ◌∙◌}
use Rattle.std.specs.Prelude.{fold}
use Rattle.std.specs.List.{flat_map}
use Rattle.rob_lex.specs.declared.token.Kind.{Kind}
use Rattle.rob_lex.specs.declared.token.Kind.TheVariants as kind
use Rattle.rob_lex.specs.declared.token.Token.{Token}
use Rattle.rob_lex.specs.Offences.{most_tokens, AreTokens}
use Rattle.rob_lex.specs.Slices.{Lexed, lexed}
use Rattle.rob_meaning.specs.Places.{Each}
use Rattle.rob_syntax.specs.declared.symbol.Symbol.{Symbol}
use Rattle.rob_write.specs.Pages.{Written, name, digits, keyword, sign, negative, line_end, bytes_of}
use Rattle.rob_round_trip.specs.Pages.{IsToken, IsWritable, IsLine, IsReadAs, ended, page_text, kind_of, words_on, symbols_on}
use Rattle.rob_index.specs.Reading.{one}
use Rattle.rob_syntax.specs.Symbols.{add_word, add_token, token_lines, word_at, symbol_at, symbols_of, bytes_of as token_bytes, words_of, lines_of}
use Rattle.rob_round_trip.proofs.Pages.PageTokens.{lexed_written, all_writable, lines_read, lines_only}
use Rattle.rob_round_trip.proofs.Pages.QuietWords.{all_tokens}
use Rattle.rob_parse.proofs.Names.WordSetLemmas.{word_lexed, lexed_words}

module _ (words : List (List ℕ)) where
  -- the symbols of one more token
  abbrev pub add_symbols : Kind → List Symbol → List (List Symbol) → List (List Symbol)
  add_symbols kind.LineEnd s lines = [] ∷ lines
  add_symbols _ s [] = (s ++ []) ∷ []
  add_symbols _ s (line ∷ lines) = (s ++ line) ∷ lines

  abbrev pub symbol_lines : List Lexed → List (List Symbol)
  symbol_lines [] = [] ∷ []
  symbol_lines (x ∷ xs) = add_symbols x.kind (symbol_at one words x.kind x.bytes) (symbol_lines xs)

  module _ (text : List ℕ) where
    added : (k : Kind) (t : Token) (lines : List (List Token))
        → map (symbols_of text one words) (add_token k t lines)
        ≡ add_symbols k (symbol_at one words t.kind (token_bytes text t)) (map (symbols_of text one words) lines)
    added kind.LineEnd t lines = refl
    added kind.Word t [] = refl
    added kind.Word t (line ∷ lines) = refl
    added kind.Digits t [] = refl
    added kind.Digits t (line ∷ lines) = refl
    added kind.Sign t [] = refl
    added kind.Sign t (line ∷ lines) = refl

    pub token_lines_are : (ts : List Token) → lines_of text one words ts ≡ symbol_lines (map (lexed text) ts)
    token_lines_are [] = refl
    token_lines_are (t ∷ ts) =
        added t.kind t (token_lines ts)
        ∙ ap (add_symbols t.kind (symbol_at one words t.kind (token_bytes text t))) (token_lines_are ts)

  abbrev symbols_at : Written → List Symbol
  symbols_at w = symbol_at one words (kind_of w) (bytes_of w)

  one_more : (w : Written) (line : List Symbol) (lines : List (List Symbol)) → IsToken w
      → add_symbols (kind_of w) (symbols_at w) (line ∷ lines) ≡ (symbols_at w ++ line) ∷ lines
  one_more (name bytes) line lines h = refl
  one_more (digits n) line lines h = refl
  one_more (keyword k) line lines h = refl
  one_more (sign m) line lines h = refl
  one_more negative line lines h = refl
  one_more line_end line lines h = absurd h

  line_is : (l rest : List Written) → Each IsToken l
      → symbol_lines (map lexed_written (l ++ line_end ∷ rest))
      ≡ symbols_on words l ∷ symbol_lines (map lexed_written rest)
  line_is [] rest h = refl
  line_is (w ∷ l) rest h =
      ap (add_symbols (kind_of w) (symbols_at w)) (line_is l rest h.1)
      ∙ one_more w (symbols_on words l) (symbol_lines (map lexed_written rest)) h.0

  written_lines : (ls : List (List Written)) → Each (Each IsToken) ls
      → symbol_lines (map lexed_written (ended ls)) ≡ map (symbols_on words) ls ++ [] ∷ []
  written_lines [] h = refl
  written_lines (l ∷ ls) h =
      line_is l (ended ls) h.0 ∙ ap (λ (more : List (List Symbol)). symbols_on words l ∷ more) (written_lines ls h.1)

words_written : (ws : List Written)
    → flat_map word_lexed (map lexed_written ws) ≡ flat_map (λ w. word_at (kind_of w) (bytes_of w)) ws
words_written [] = refl
words_written (w ∷ ws) = ap (λ (l : List (List ℕ)). word_at (kind_of w) (bytes_of w) ++ l) (words_written ws)

-- the tokens of a page are the words and the lines of symbols that were written
pub told_as : (ls : List (List Written)) → Each (Each IsToken) ls → (tokens : List Token)
    → AreTokens (page_text ls) tokens
    → (words_of (page_text ls) tokens ≡ words_on ls)
    × (lines_of (page_text ls) one (words_on ls) tokens ≡ map (symbols_on (words_on ls)) ls ++ [] ∷ [])
told_as ls h tokens are =
    let same = lines_only ls h tokens are in (
      ap (fold add_word []) (sym (lexed_words (page_text ls) tokens) ∙ ap (flat_map word_lexed) same
          ∙ words_written (ended ls)),
      token_lines_are (words_on ls) (page_text ls) tokens ∙ ap (symbol_lines (words_on ls)) same
          ∙ written_lines (words_on ls) ls h,
    )

-- so they are where the lines may be written
pub read_as : (ls : List (List Written)) → Each (Each IsWritable) ls → (tokens : List Token)
    → AreTokens (page_text ls) tokens
    → (words_of (page_text ls) tokens ≡ words_on ls)
    × (lines_of (page_text ls) one (words_on ls) tokens ≡ map (symbols_on (words_on ls)) ls ++ [] ∷ [])
read_as ls h tokens are = told_as ls (all_tokens ls h) tokens are

-- lines that may be written are read as they were written
pub page_is_read : (ls : List (List Written)) → Each IsLine ls → length (ended ls) ≤ most_tokens → IsReadAs ls
page_is_read ls h few =
    let r = lines_read ls h few in
    let found = read_as ls (all_writable ls h) r.0 r.1 in
    record { tokens = r.0; are_tokens = r.1; words_are = found.0; lines_are = found.1 }
