-- The names that a text declares.
use Rattle.std.proofs.Common.{◌≡◌, ◌≢◌, ℕ, zero, suc, ◌<◌, Bool, true, false, List, [], ◌∷◌, ◌++◌, length, map, refl, sym, ap, ◌∙◌, arith, codes}
use Rattle.std.specs.Prelude.{nat_le, Option, Some, None, if◌then◌else◌}
use Rattle.std.specs.List.{flat_map}
use Rattle.rob_lex.specs.declared.token.Token.{Token}
use Rattle.rob_lex.specs.declared.token.Kind.{Kind}
use Rattle.rob_lex.specs.declared.token.Kind.TheVariants as kind
use Rattle.rob_meaning.specs.Named.{AreDistinct, IsPlain, IsFree}
use Rattle.rob_meaning.specs.Places.{Each}
use Rattle.rob_rules.specs.declared.size.Sizes.{Sizes}
use Rattle.rob_rules.specs.declared.sort.Sort.{Sort}
use Rattle.rob_syntax.specs.declared.symbol.Symbol.{Symbol}
use Rattle.rob_syntax.specs.declared.symbol.Symbol.TheVariants.{Name, Reserved}
use Rattle.rob_syntax.specs.declared.symbol.Keyword.{Keyword}
use Rattle.rob_syntax.specs.declared.symbol.Keyword.TheVariants as word
use Rattle.rob_syntax.specs.declared.syntax.Statement.{Statement}
use Rattle.rob_syntax.specs.declared.syntax.Statement.TheVariants as parsed
use Rattle.rob_parse.specs.Written.{word_of}
use Rattle.rob_syntax.specs.Names.{IsWord, IsSpelled}
use Rattle.rob_rules.specs.Chains.{IsFormed, IsNumber}
use Rattle.rob_rules.specs.Scopes.{declared_by}
use Rattle.rob_rules.proofs.Counts.SizeLemmas.{at_most}
use Rattle.rob_index.specs.Reading.{one}
use Rattle.rob_syntax.specs.Symbols.{keywords, keyword_among, longest_name, number_of, word_symbol, symbol_at, symbols_of, bytes_of, word_at, word_in, add_token, token_lines, lines_of}
use Rattle.rob_parse.proofs.Names.WordSetLemmas.{In, number_found, one_number}

module _ (words : List (List ℕ)) where
  -- a symbol's name is such a number
  abbrev pub IsSound : Symbol → Type 0
  IsSound (Name k) = IsNumber words k
  IsSound _ = Unit {0}

  word_sound : (bytes : List ℕ) (o : Option Keyword) → keyword_among keywords bytes ≡ o → In words bytes
      → IsSound (word_symbol one words bytes o)
  word_sound bytes (Some k) is inside = tt
  word_sound bytes None is inside = go (nat_le (length bytes) longest_name) refl
    where
      go : (b : Bool) → nat_le (length bytes) longest_name ≡ b
          → IsSound (if b then Name (number_of words bytes) else Reserved word.Unused)
      go true short =
          let f = number_found words bytes inside in (
            f.0,
            (
              ap (keyword_among keywords) f.1
                  ∙ is,
              omega (arith, at_most (length bytes) longest_name short, ap length f.1),
            ),
          )
      go false short = tt

  module _ (text : List ℕ) where
    -- a token's word is among the words
    abbrev pub HasWord : Token → Type 0
    HasWord t = Each (In words) (word_in text t)

    each_join : (xs ys : List Symbol) → Each IsSound xs → Each IsSound ys → Each IsSound (xs ++ ys)
    each_join [] ys a b = b
    each_join (x ∷ xs) ys a b = (a.0, each_join xs ys a.1 b)

    token_sound : (k : Kind) (t : Token) → t.kind ≡ k → HasWord t
        → Each IsSound (symbol_at one words k (bytes_of text t))
    token_sound kind.Word t is has =
        (word_sound (bytes_of text t) (keyword_among keywords (bytes_of text t)) refl (with_kind t.kind is has), tt)
      where
        with_kind : (k : Kind) → k ≡ kind.Word → Each (In words) (word_at k (bytes_of text t))
            → In words (bytes_of text t)
        with_kind kind.Word is has = has.0
        with_kind kind.Digits is has = cc
        with_kind kind.Sign is has = cc
        with_kind kind.LineEnd is has = cc
    token_sound kind.Digits t is has = (tt, tt)
    token_sound kind.Sign t is has = (tt, tt)
    token_sound kind.LineEnd t is has = tt

    tokens_sound : (ts : List Token) → Each HasWord ts → Each IsSound (symbols_of text one words ts)
    tokens_sound [] has = tt
    tokens_sound (t ∷ ts) has =
        each_join (symbol_at one words t.kind (bytes_of text t)) (symbols_of text one words ts)
        (token_sound t.kind t refl has.0) (tokens_sound ts has.1)

    add_has : (k : Kind) (t : Token) (lines : List (List Token)) → HasWord t → Each (Each HasWord) lines
        → Each (Each HasWord) (add_token k t lines)
    add_has kind.LineEnd t lines has all = (tt, all)
    add_has kind.Word t [] has all = ((has, tt), tt)
    add_has kind.Word t (l ∷ lines) has all = ((has, all.0), all.1)
    add_has kind.Digits t [] has all = ((has, tt), tt)
    add_has kind.Digits t (l ∷ lines) has all = ((has, all.0), all.1)
    add_has kind.Sign t [] has all = ((has, tt), tt)
    add_has kind.Sign t (l ∷ lines) has all = ((has, all.0), all.1)

    pub lines_have : (ts : List Token) → Each HasWord ts → Each (Each HasWord) (token_lines ts)
    lines_have [] has = (tt, tt)
    lines_have (t ∷ ts) has = add_has t.kind t (token_lines ts) has.0 (lines_have ts has.1)

    map_sound : (lines : List (List Token)) → Each (Each HasWord) lines
        → Each (Each IsSound) (map (symbols_of text one words) lines)
    map_sound [] has = tt
    map_sound (l ∷ lines) has = (tokens_sound l has.0, map_sound lines has.1)

    pub apart : (ts : List Token) → Each (In words) (flat_map (word_in text) ts) → Each HasWord ts
    apart [] h = tt
    apart (t ∷ ts) h = let b = cut (word_in text t) h in (b.0, apart ts b.1)
      where
        cut : (xs : List (List ℕ)) → Each (In words) (xs ++ flat_map (word_in text) ts) → Each (In words) xs
            × Each (In words) (flat_map (word_in text) ts)
        cut [] h = (tt, h)
        cut (x ∷ xs) h = let r = cut xs h.1 in ((h.0, r.0), r.1)

    -- the names of all lines are such numbers
    pub lines_sound : (ts : List Token) → Each (In words) (flat_map (word_in text) ts)
        → Each (Each IsSound) (lines_of text one words ts)
    lines_sound ts h = map_sound (token_lines ts) (lines_have ts (apart ts h))

  -- a name that a statement declares is such a number
  abbrev pub IsDeclared : Option (ℕ × Sort) → Type 0
  IsDeclared None = Unit {0}
  IsDeclared (Some d) = IsNumber words d.0

  pub declared_so : (sizes : Sizes) (s : Statement) → IsFormed words s → IsDeclared (declared_by sizes s)
  declared_so sizes (parsed.Uncertain d) formed = formed.declares
  declared_so sizes (parsed.Over k) formed = formed.declares
  declared_so sizes (parsed.Set r) formed = tt
  declared_so sizes (parsed.Budget b) formed = tt
  declared_so sizes (parsed.Var d) formed = formed.declares
  declared_so sizes (parsed.Adaptive p) formed = formed.declares
  declared_so sizes (parsed.Goal g) formed = tt
  declared_so sizes (parsed.Row r) formed = formed.declares

-- ---- a word that is no keyword may be a name
free_name : (name : List ℕ) → keyword_among keywords name ≡ None → IsFree name
free_name name none = (
  λ e. other (codes "objective") e refl,
  λ e. other (codes "tau") e refl,
  λ e. other (codes "set") e refl,
  λ e.
      other (codes "budget") e refl,
)
  where
    other : {k : Keyword} (w : List ℕ) → name ≡ w → keyword_among keywords w ≡ Some k → ⊥
    other w e some = let p : keyword_among keywords w ≡ None = ap (keyword_among keywords) (sym e) ∙ none in cc

each_get : (words : List (List ℕ)) (k : ℕ) → Each IsPlain words → k < length words → IsPlain (word_of words k)
each_get [] k plain inside = absurd (omega arith)
each_get (w ∷ words) zero plain inside = plain.0
each_get (w ∷ words) (suc k) plain inside = each_get words k plain.1 (omega arith)

pub word_get : (words : List (List ℕ)) (k : ℕ) → Each IsWord words → k < length words → IsWord (word_of words k)
word_get [] k all inside = absurd (omega arith)
word_get (w ∷ words) zero all inside = all.0
word_get (w ∷ words) (suc k) all inside = word_get words k all.1 (omega arith)

module _ (words : List (List ℕ)) where
  pub names_free : (ks : List ℕ) → Each (IsNumber words) ks → Each IsFree (map (word_of words) ks)
  names_free [] h = tt
  names_free (k ∷ ks) h = (free_name (word_of words k) h.0.1.0, names_free ks h.1)

  pub names_plain : (ks : List ℕ) → Each IsPlain words → Each (IsNumber words) ks
      → Each IsPlain (map (word_of words) ks)
  names_plain [] plain h = tt
  names_plain (k ∷ ks) plain h = (each_get words k plain h.0.0, names_plain ks plain h.1)

  pub names_distinct : (ks : List ℕ) → AreDistinct words → Each (IsNumber words) ks → AreDistinct ks
      → AreDistinct (map (word_of words) ks)
  names_distinct [] all h d = tt
  names_distinct (k ∷ ks) all h d = (go ks h.1 d.0, names_distinct ks all h.1 d.1)
    where
      go : (js : List ℕ) → Each (IsNumber words) js → Each (λ j. k ≢ j) js
          → Each (λ n. word_of words k ≢ n) (map (word_of words) js)
      go [] h d = tt
      go (j ∷ js) g d = (λ e. d.0 (one_number words k j all h.0.0 g.0.0 e), go js g.1 d.1)

  -- a name that a text may declare: a word that is no keyword, and not too long
  spelled_get : (k : ℕ) → Each IsWord words → IsNumber words k → IsSpelled (word_of words k)
  spelled_get k all h = record { is_word = word_get words k all h.0; no_keyword = h.1.0; is_short = h.1.1 }

  pub names_spelled : (ks : List ℕ) → Each IsWord words → Each (IsNumber words) ks
      → Each IsSpelled (map (word_of words) ks)
  names_spelled [] all h = tt
  names_spelled (k ∷ ks) all h = (spelled_get k all h.0, names_spelled ks all h.1)
