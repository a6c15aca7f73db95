-- The names on the lines of a text of either version are words, and no keywords.
use Rattle.std.proofs.Common.{◌≡◌, ℕ, Bool, true, false, List, [], ◌∷◌, map, refl, ap, ◌∙◌, subst}
use Rattle.std.specs.Prelude.{◌&&◌, ◌||◌, not, Option, Some, None, if◌then◌else◌}
use Rattle.std.specs.List.{flat_map}
use Rattle.rob_index.specs.Reading.{Version}
use Rattle.rob_lex.specs.Offences.{AreTokens}
use Rattle.rob_lex.specs.declared.token.Kind.{Kind}
use Rattle.rob_lex.specs.declared.token.Kind.TheVariants as kind
use Rattle.rob_lex.specs.declared.token.Token.{Token}
use Rattle.rob_meaning.proofs.Lists.EachLemmas.{each_append}
use Rattle.rob_meaning.specs.Places.{Each}
use Rattle.rob_parse.proofs.Names.NamedLemmas.{HasWord, apart, lines_have, word_get}
use Rattle.rob_parse.proofs.Names.WordSetLemmas.{In, number_found, tokens_word, words_in}
use Rattle.rob_parse.specs.Written.{word_of}
use Rattle.rob_syntax.specs.Names.{IsWord}
use Rattle.rob_syntax.specs.Symbols.{bytes_of, is_name, keyword_among, keywords, number_of, symbol_at, symbols_of, token_lines, word_at, word_in, word_symbol, words_of}
use Rattle.rob_syntax.specs.Versions.{body, has_token, names_version, text_lines, text_version}
use Rattle.rob_syntax.specs.declared.symbol.Keyword.{Keyword}
use Rattle.rob_syntax.specs.declared.symbol.Keyword.TheVariants.{Unused}
use Rattle.rob_syntax.specs.declared.symbol.Symbol.{Symbol}
use Rattle.rob_syntax.specs.declared.symbol.Symbol.TheVariants.{Name, Reserved}

module _ (words : List (List ℕ)) where
  -- the number of a word that is no keyword
  abbrev pub IsFreeNumber : ℕ → Type 0
  IsFreeNumber k = IsWord (word_of words k) × (keyword_among keywords (word_of words k) ≡ None)

  -- a symbol's name is one
  abbrev pub HasFreeName : Symbol → Type 0
  HasFreeName (Name k) = IsFreeNumber k
  HasFreeName _ = Unit {0}

  module _ (all : Each IsWord words) (version : Version) where
    word_free : (bytes : List ℕ) (o : Option Keyword) → keyword_among keywords bytes ≡ o → In words bytes
        → HasFreeName (word_symbol version words bytes o)
    word_free bytes (Some k) is inside = tt
    word_free bytes None is inside = go (is_name version bytes)
      where
        go : (b : Bool) → HasFreeName (if b then Name (number_of words bytes) else Reserved Unused)
        go true =
            let f = number_found words bytes inside in
            (word_get words (number_of words bytes) all f.0, ap (keyword_among keywords) f.1 ∙ is)
        go false = tt

    module _ (text : List ℕ) where
      token_free : (k : Kind) (t : Token) → t.kind ≡ k → HasWord words text t
          → Each HasFreeName (symbol_at version words k (bytes_of text t))
      token_free kind.Word t is has = (
        word_free (bytes_of text t) (keyword_among keywords (bytes_of text t)) refl
            (subst (λ (k : Kind). Each (In words) (word_at k (bytes_of text t))) is has).0,
        tt,
      )
      token_free kind.Digits t is has = (tt, tt)
      token_free kind.Sign t is has = (tt, tt)
      token_free kind.LineEnd t is has = tt

      tokens_free : (ts : List Token) → Each (HasWord words text) ts
          → Each HasFreeName (symbols_of text version words ts)
      tokens_free [] has = tt
      tokens_free (t ∷ ts) has =
          each_append HasFreeName (symbol_at version words t.kind (bytes_of text t)) (symbols_of text version words ts)
          (token_free t.kind t refl has.0) (tokens_free ts has.1)

      one_line : (b : Bool) (line : List Token) → Each (HasWord words text) line
          → Each HasFreeName (symbols_of text version words (if b then [] else line))
      one_line true line has = tt
      one_line false line has = tokens_free line has

      body_free : (begun : Bool) (lines : List (List Token)) → Each (Each (HasWord words text)) lines
          → Each (Each HasFreeName) (map (symbols_of text version words) (body text begun lines))
      body_free begun [] has = tt
      body_free begun (line ∷ lines) has = (
        one_line (not begun && names_version text line) line has.0,
        body_free (begun || has_token line) lines has.1,
      )

-- so are those of a text, whose words are its tokens'
pub text_free : (text : List ℕ) (tokens : List Token) → AreTokens text tokens
    → Each (Each (HasFreeName (words_of text tokens))) (text_lines text (words_of text tokens) tokens)
text_free text tokens are =
    let own = words_of text tokens in
    body_free own (tokens_word text tokens are) (text_version text tokens) text false (token_lines tokens)
    (lines_have own text tokens (apart own text tokens (words_in (flat_map (word_in text) tokens) [])))
