-- In a text that has tokens no line of symbols opens too many parentheses at once, as rob_index counts them.
use Rattle.std.proofs.Common.{◌≡◌, ◌≤◌, ℕ, ◌==◌, ⊎_elim, inl, inr, ◌⊎◌, Bool, true, false, List, [], ◌∷◌, ◌++◌, map, refl, sym, ap, ◌∙◌, subst, arith, append-nil}
use Rattle.std.specs.Prelude.{codes, if◌then◌else◌, not, ◌&&◌, ◌||◌, Some}
use Rattle.std.specs.Str.{bytes_eq}
use Rattle.std.proofs.lemmas.Bool.{cases_Bool, eqb-true}
use Rattle.std.proofs.lemmas.Slice.Eq.{bytes_eq-Decides}
use Rattle.rob_index.proofs.Tokens.OpenLemmas.{deepest-bare}
use Rattle.rob_index.specs.Depths.{bare, deepest}
use Rattle.rob_index.specs.Reading.{Version}
use Rattle.rob_index.specs.Symbols as is
use Rattle.rob_lex.proofs.ShallowLemmas.{lines_shallow}
use Rattle.rob_lex.specs.Lines.{AreShallow, in_front, paren_lines, paren_sign, paren_symbol}
use Rattle.rob_lex.specs.Offences.{AreTokens, most_open}
use Rattle.rob_lex.specs.Slices.{lexed}
use Rattle.rob_lex.specs.declared.token.Kind.{Kind}
use Rattle.rob_lex.specs.declared.token.Kind.TheVariants as kind
use Rattle.rob_lex.specs.declared.token.Token.{Token}
use Rattle.rob_meaning.specs.Places.{Each}
use Rattle.rob_round_trip.proofs.Lengths.DepthSteps.{stays, step_of_mark}
use Rattle.rob_round_trip.proofs.Lengths.TokenPlaces.{other_stays}
use Rattle.rob_syntax.specs.SeenSymbols.{seen_keyword, seen_line, seen_mark, seen_symbol}
use Rattle.rob_syntax.specs.Symbols.{add_token, bytes_of, is_name, keyword_among, keywords, lines_of, mark_of, number_of, symbol_at, symbols_of, token_lines, word_symbol}
use Rattle.rob_syntax.specs.Versions.{body, has_token, names_version, text_lines, text_version}
use Rattle.rob_syntax.specs.declared.symbol.Keyword.{Keyword}
use Rattle.rob_syntax.specs.declared.symbol.Keyword.TheVariants.{Unused}
use Rattle.rob_syntax.specs.declared.symbol.Mark.{Mark}
use Rattle.rob_syntax.specs.declared.symbol.Mark.TheVariants as mark
use Rattle.rob_syntax.specs.declared.symbol.Symbol.{Symbol}
use Rattle.rob_syntax.specs.declared.symbol.Symbol.TheVariants.{Name, Reserved}

-- ---- one token
-- the symbols as `deepest` looks at them
abbrev bare_line : List Symbol → List is.Symbol
bare_line symbols = map bare (seen_line symbols)

module _ (version : Version) (words : List (List ℕ)) where
  -- the entry is not that of `sum`, or its word is that
  abbrev IsEntry : List ℕ × Keyword → Type 0
  IsEntry k = (bare (is.word (seen_keyword k.1)) ≡ is.digits 0) ⊎ (k.0 ≡ codes "sum")

  entries : Each IsEntry keywords
  entries = (
    inl refl,
    (
      inl refl,
      (
        inl refl,
        (
          inl refl,
          (
            inl refl,
            (
              inl refl,
              (
                inl refl,
                (
                  inl refl,
                  (
                    inl refl,
                    (
                      inl refl,
                      (
                        inl refl,
                        (
                          inl refl,
                          (
                            inl refl,
                            (
                              inl refl,
                              (inl refl, (inl refl, (inl refl, (inr refl, (inl refl, (inl refl, tt)))))),
                            ),
                          ),
                        ),
                      ),
                    ),
                  ),
                ),
              ),
            ),
          ),
        ),
      ),
    ),
  )

  -- what a word that isn't `sum` is
  other_word : (bytes : List ℕ) → bytes_eq bytes (codes "sum") ≡ false
      → (ks : List (List ℕ × Keyword)) → Each IsEntry ks
      → bare (seen_symbol (word_symbol version words bytes (keyword_among ks bytes))) ≡ is.digits 0
  other_word bytes differs [] h = go (is_name version bytes)
    where
      go : (b : Bool) → bare (seen_symbol (if b then Name (number_of words bytes) else Reserved Unused)) ≡ is.digits 0
      go true = refl
      go false = refl
  other_word bytes differs (k ∷ ks) h = go (bytes_eq bytes k.0) refl h.0 (other_word bytes differs ks h.1)
    where
      go : (b : Bool) → bytes_eq bytes k.0 ≡ b → IsEntry k
          → bare (seen_symbol (word_symbol version words bytes (keyword_among ks bytes))) ≡ is.digits 0
          → bare (seen_symbol (word_symbol version words bytes (if b then Some k.1 else keyword_among ks bytes)))
          ≡ is.digits 0
      go true e (inl other) rest = other
      go true e (inr same) rest =
          let is_sum : bytes ≡ codes "sum" = (bytes_eq-Decides bytes k.0).0 e ∙ same in
          let yes : bytes_eq bytes (codes "sum") ≡ true = (bytes_eq-Decides bytes (codes "sum")).1 is_sum in cc
      go false e entry rest = rest

  word_bare : (bytes : List ℕ)
      → bare_line (symbol_at version words kind.Word bytes) ≡ paren_symbol kind.Word bytes
  word_bare bytes =
      ⊎_elim
      (λ (yes : bytes_eq bytes (codes "sum") ≡ true).
      let same : bytes ≡ codes "sum" = (bytes_eq-Decides bytes (codes "sum")).0 yes in
      subst (λ (w : List ℕ). bare_line (symbol_at version words kind.Word w) ≡ paren_symbol kind.Word w) (sym same)
      refl)
      (λ (differs : bytes_eq bytes (codes "sum") ≡ false).
      let other = other_word bytes differs keywords entries in
      λ i. (other ∙ sym (ap (λ (b : Bool). if b then is.word is.sum else is.digits 0) differs)) i ∷ [])
      (cases_Bool (bytes_eq bytes (codes "sum")))

  -- what a sign is that is no parenthesis
  other_mark : (m : Mark) → step_of_mark m ≡ stays → bare (is.sign (seen_mark m)) ≡ is.digits 0
  other_mark mark.Plus h = refl
  other_mark mark.Minus h = refl
  other_mark mark.Star h = refl
  other_mark mark.Slash h = refl
  other_mark mark.Open h = cc
  other_mark mark.Close h = cc
  other_mark mark.OpenBracket h = refl
  other_mark mark.CloseBracket h = refl
  other_mark mark.Comma h = refl
  other_mark mark.Colon h = refl
  other_mark mark.Equal h = refl
  other_mark mark.AtMost h = refl
  other_mark mark.AtLeast h = refl

  byte_bare : (b : ℕ) → bare (is.sign (seen_mark (mark_of b))) ≡ paren_sign (b ∷ [])
  byte_bare b = go (b == 40) (b == 41) refl refl
    where
      go : (x y : Bool) → (b == 40) ≡ x → (b == 41) ≡ y → bare (is.sign (seen_mark (mark_of b))) ≡ paren_sign (b ∷ [])
      go true y h k =
          subst (λ (c : ℕ). bare (is.sign (seen_mark (mark_of c))) ≡ paren_sign (c ∷ [])) (sym (eqb-true b 40 h)) refl
      go false true h k =
          subst (λ (c : ℕ). bare (is.sign (seen_mark (mark_of c))) ≡ paren_sign (c ∷ [])) (sym (eqb-true b 41 k)) refl
      go false false h k =
          other_mark (mark_of b) (other_stays b h k)
          ∙ sym (λ i. if h i then is.sign is.opening else (if k i then is.sign is.closing else is.digits 0))

  sign_bare : (bytes : List ℕ) → bare_line (symbol_at version words kind.Sign bytes) ≡ paren_symbol kind.Sign bytes
  sign_bare [] = refl
  sign_bare (b ∷ bytes) = ap (λ (x : is.Symbol). x ∷ []) (byte_bare b)

  token_bare : (k : Kind) (bytes : List ℕ) → bare_line (symbol_at version words k bytes) ≡ paren_symbol k bytes
  token_bare kind.Word bytes = word_bare bytes
  token_bare kind.Digits bytes = refl
  token_bare kind.Sign bytes = sign_bare bytes
  token_bare kind.LineEnd bytes = refl

  -- ---- all tokens
  module _ (text : List ℕ) where
    abbrev bare_of : List Token → List is.Symbol
    bare_of line = bare_line (symbols_of text version words line)

    bare_join : (xs ys : List Symbol) → bare_line (xs ++ ys) ≡ bare_line xs ++ bare_line ys
    bare_join [] ys = refl
    bare_join (x ∷ xs) ys = ap (λ (l : List is.Symbol). bare (seen_symbol x) ∷ l) (bare_join xs ys)

    -- one more token on its line
    bare_first : (t : Token) (line : List Token)
        → bare_of (t ∷ line) ≡ paren_symbol t.kind (bytes_of text t) ++ bare_of line
    bare_first t line =
        bare_join (symbol_at version words t.kind (bytes_of text t)) (symbols_of text version words line)
        ∙ ap (λ (l : List is.Symbol). l ++ bare_of line) (token_bare t.kind (bytes_of text t))

    bare_alone : (t : Token) → bare_of (t ∷ []) ≡ paren_symbol t.kind (bytes_of text t)
    bare_alone t = bare_first t [] ∙ append-nil (paren_symbol t.kind (bytes_of text t))

    bare_added : (k : Kind) (t : Token) (lines : List (List Token))
        → in_front k (paren_symbol t.kind (bytes_of text t)) (map bare_of lines) ≡ map bare_of (add_token k t lines)
    bare_added kind.LineEnd t lines = refl
    bare_added kind.Word t [] = ap (λ (l : List is.Symbol). l ∷ []) (sym (bare_alone t))
    bare_added kind.Word t (line ∷ lines) = ap (λ (l : List is.Symbol). l ∷ map bare_of lines) (sym (bare_first t line))
    bare_added kind.Digits t [] = ap (λ (l : List is.Symbol). l ∷ []) (sym (bare_alone t))
    bare_added kind.Digits t (line ∷ lines) =
        ap (λ (l : List is.Symbol). l ∷ map bare_of lines) (sym (bare_first t line))
    bare_added kind.Sign t [] = ap (λ (l : List is.Symbol). l ∷ []) (sym (bare_alone t))
    bare_added kind.Sign t (line ∷ lines) = ap (λ (l : List is.Symbol). l ∷ map bare_of lines) (sym (bare_first t line))

    paren_lines_are : (ts : List Token) → paren_lines (map (lexed text) ts) ≡ map bare_of (token_lines ts)
    paren_lines_are [] = refl
    paren_lines_are (t ∷ ts) =
        ap (in_front t.kind (paren_symbol t.kind (bytes_of text t))) (paren_lines_are ts)
        ∙ bare_added t.kind t (token_lines ts)

    -- few parentheses are open at once on a line
    abbrev IsLowLine : List Symbol → Type 0
    IsLowLine line = deepest 0 [] false (seen_line line) ≤ most_open

    low_lines : (lines : List (List Token)) → AreShallow (map bare_of lines)
        → Each IsLowLine (map (symbols_of text version words) lines)
    low_lines [] h = tt
    low_lines (line ∷ lines) h = (
      subst (λ (n : ℕ). n ≤ most_open) (deepest-bare 0 [] false (seen_line (symbols_of text version words line))) h.0,
      low_lines lines h.1,
    )

    pub text_low : (ts : List Token) → AreTokens text ts → Each IsLowLine (lines_of text version words ts)
    text_low ts are =
        low_lines (token_lines ts) (subst AreShallow (paren_lines_are ts) (lines_shallow text ts are))

    -- the line that names the version is read as none
    body_low : (begun : Bool) (lines : List (List Token)) → Each IsLowLine (map (symbols_of text version words) lines)
        → Each IsLowLine (map (symbols_of text version words) (body text begun lines))
    body_low begun [] h = tt
    body_low begun (line ∷ lines) h =
        (one_low (not begun && names_version text line), body_low (begun || has_token line) lines h.1)
      where
        one_low : (b : Bool) → IsLowLine (symbols_of text version words (if b then [] else line))
        one_low true = omega arith
        one_low false = h.0

-- the lines that are read of a text that has tokens
pub read_low : (text : List ℕ) (words : List (List ℕ)) (ts : List Token) → AreTokens text ts
    → Each (λ (line : List Symbol). deepest 0 [] false (seen_line line) ≤ most_open) (text_lines text words ts)
read_low text words ts are =
    body_low (text_version text ts) words text false (token_lines ts)
    (text_low (text_version text ts) words text ts are)
