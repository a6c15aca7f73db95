-- What a text of either version reads as are statements one behind another, each as a reader makes it.
use Rattle.std.proofs.Common.{◌≡◌, ℕ, ◌≤◌, false, List, [], ◌∷◌, length, map, sym, ap, ◌∙◌, subst, arith}
use Rattle.std.specs.List.{flat_map, list_any}
use Rattle.rob_index.proofs.LinesRead.KeptLemmas.{all_of_lines}
use Rattle.rob_index.proofs.Names.LineNames.{statement_refs}
use Rattle.std.proofs.lemmas.Bool.{or_parts}
use Rattle.rob_index.proofs.Names.NamingLemmas.{all_short, names_of_refs, none_among}
use Rattle.rob_index.specs.Expansion.{expand, word_at}
use Rattle.rob_index.specs.Kept.{IsOfLine}
use Rattle.rob_index.specs.Lines.{IsStatement}
use Rattle.rob_index.specs.Membership.{Among, here, there}
use Rattle.rob_index.specs.Reading as lines
use Rattle.rob_index.specs.Reading.{Version, one, two, IsOf, State}
use Rattle.rob_index.specs.Refs.{EachNameOf, IfName, IsNameOf}
use Rattle.rob_index.specs.Rules.{has_great_digits, index_out, is_no_statement, is_out, no_statement}
use Rattle.rob_index.specs.Places.{places}
use Rattle.rob_index.specs.Statements as stated
use Rattle.rob_index.specs.Statements.{Indexed, Name, Ref, Statement, Tree}
use Rattle.rob_index.specs.Symbols as is
use Rattle.rob_meaning.proofs.Lists.EachLemmas.{each_left, each_map, each_right}
use Rattle.rob_meaning.specs.Named.{AreDistinct, IsPlain}
use Rattle.rob_meaning.specs.Places.{Each}
use Rattle.rob_parse.proofs.Chains.FreeLines.{HasFreeName, IsFreeNumber, text_free}
use Rattle.rob_parse.proofs.Chains.NameLists.{from_names, name_map, of_names}
use Rattle.rob_parse.proofs.Names.ExpandedNames.{IsFreeWord, indexed_word}
use Rattle.rob_parse.proofs.Names.WordSetLemmas.{In, byte_plain, first_plain, number_found, tokens_word, words_distinct, words_words}
use Rattle.rob_lex.specs.declared.token.Token.{Token}
use Rattle.rob_rules.proofs.Joining.LinkLemmas.{read_among, read_linked}
use Rattle.rob_rules.proofs.Joining.ShapeLemmas.{expanded_real}
use Rattle.rob_rules.specs.Chains as chains
use Rattle.rob_rules.specs.Chains.{Chain, IsFormed, IsNumber, MayDeclare, declared_name}
use Rattle.rob_rules.specs.Faults.{expressions, in_order}
use Rattle.rob_rules.specs.Growing.{AreAmong}
use Rattle.rob_rules.specs.Links.{AreLinked}
use Rattle.rob_rules.specs.Names.{Named, named_behind, names_of}
use Rattle.rob_rules.specs.RealTrees.{IsReal}
use Rattle.rob_rules.specs.Scopes.{Earlier, behind, start}
use Rattle.rob_rules.specs.Texts.{Reads, has_later, in_front, is_declared}
use Rattle.rob_rules.specs.declared.fault.Fault.{Fault}
use Rattle.rob_syntax.specs.Names.{GoesOn, IsWord}
use Rattle.rob_syntax.specs.Numbered.{numbered}
use Rattle.rob_syntax.specs.SeenSymbols.{seen_line}
use Rattle.rob_syntax.specs.Symbols.{keyword_among, keywords, longest_name, number_of, word_in, words_of}
use Rattle.rob_syntax.specs.Versions.{text_lines, text_version}
use Rattle.rob_syntax.specs.declared.symbol.Symbol.{Symbol}
use Rattle.rob_syntax.specs.declared.symbol.Symbol.TheVariants as symbol
use Rattle.rob_syntax.specs.declared.syntax.Statement.{Statement as Own}

-- ---- one plain statement
-- what is known of one that a line stands for: its names are words and no keywords, and not too long, and its trees are
-- real
record IsGood (words : List Name) (p : Statement) : Type 0 where
  free : EachNameOf IsFreeWord p
  short : EachNameOf (λ n. length n ≤ longest_name) p
  trees : Each IsReal (expressions (numbered words p))
  is : is_no_statement p ≡ false

may_declare : (words : List Name) (n : Name) → In words n → IsFreeWord n → length n ≤ longest_name
    → IsNumber words (number_of words n)
may_declare words n inside free short =
    let f = number_found words n inside in
    (f.0, (ap (keyword_among keywords) f.1 ∙ free.1, omega (arith, short, ap (λ (l : Name). length l) f.1)))

declares_of : (words : List Name) (p : Statement) → EachNameOf (In words) p → IsGood words p
    → MayDeclare words (declared_name (numbered words p))
declares_of words (stated.uncertain n b) inside good = may_declare words n inside good.free good.short
declares_of words (stated.over n) inside good = may_declare words n inside good.free good.short
declares_of words (stated.set l r p o) inside good = tt
declares_of words (stated.budget n ms o) inside good = tt
declares_of words (stated.variable n b) inside good = may_declare words n inside good.free good.short
declares_of words (stated.adaptive n on b) inside good = may_declare words n inside.0 good.free.0 good.short.0
declares_of words (stated.goal s e o) inside good = tt
declares_of words (stated.row n l r p o) inside good = may_declare words n inside.0 good.free.0 good.short.0

members_of : (words : List Name) (p : Statement) → is_no_statement p ≡ false → chains.HasMember (numbered words p)
members_of words (stated.uncertain n b) h = tt
members_of words (stated.over n) h = tt
members_of words (stated.set l r p o) h = tt
members_of words (stated.budget n [] o) h = cc
members_of words (stated.budget n (m ∷ ms) o) h = λ e. cc
members_of words (stated.variable n b) h = tt
members_of words (stated.adaptive n on b) h = tt
members_of words (stated.goal s e o) h = tt
members_of words (stated.row n l r p o) h = tt

formed_of : (words : List Name) (p : Statement) → EachNameOf (In words) p → IsGood words p
    → IsFormed words (numbered words p)
formed_of words p inside good = record {
  declares = declares_of words p inside good;
  trees = good.trees;
  members = members_of words p good.is;
}

are_in : (words ns : List Name) → AreAmong words ns → Each (In words) ns
are_in words [] h = tt
are_in words (n ∷ ns) h = (h.0, are_in words ns h.1)

-- statements one behind another, each as a reader makes it
chain_of : (limit : ℕ) (words : List Name) (ps : List Statement) (e f : Earlier) → AreLinked limit words e ps f
    → Each (λ p. AreAmong words (names_of p)) ps → Each (IsGood words) ps
    → Chain limit words e (map (numbered words) ps) f
chain_of limit words [] e f link among good = link
chain_of limit words (p ∷ ps) e f link among good = (
  record {
    before = link.0;
    formed = formed_of words p (from_names (In words) p (are_in words (names_of p) among.0)) good.0;
    keeps = link.1;
    faultless = link.2;
  },
  chain_of limit words ps (behind e (numbered words p)) f link.3 among.1 good.1,
)

module _ (limit : ℕ) (own : List Name) (v : Version) where
  abbrev St : Type 0
  St = State limit own Named Fault in_order (has_later limit) named_behind is_declared (IsOf v)

  abbrev AreRead : St → List (List is.Symbol) → List Statement → St → Type 0
  AreRead = lines.Follows limit own Named Fault in_order (has_later limit) named_behind is_declared (IsOf v)

  abbrev steps : Named → List Statement → Named
  steps = lines.steps limit own Named Fault in_order (has_later limit) named_behind is_declared (IsOf v)

  abbrev after : St → Indexed Tree → St
  after = lines.behind limit own Named Fault in_order (has_later limit) named_behind is_declared (IsOf v)

  -- ---- words stay different
  steps_distinct : (k : Named) (ps : List Statement) → AreDistinct k.words → AreDistinct (steps k ps).words
  steps_distinct k [] d = d
  steps_distinct k (p ∷ ps) d = steps_distinct (named_behind k p) ps (words_distinct (names_of p) k.words d)

  lines_distinct : (ls : List (List is.Symbol)) (e : St) (list : List Statement) (f : St) → AreRead e ls list f
      → AreDistinct e.known.words → AreDistinct f.known.words
  lines_distinct [] e list f h d = subst (λ (x : St). AreDistinct x.known.words) h.1 d
  lines_distinct ([] ∷ ls) e list f h d = lines_distinct ls e list f h d
  lines_distinct ((x ∷ xs) ∷ ls) e list f h d =
      lines_distinct ls (after e h.0) h.1 f h.5 (steps_distinct e.known (expand own h.0) d)

  module _ (all : List Name) where
    -- ---- what is known of each plain statement
    good_of : (ls : List (List Symbol)) → Each (Each (HasFreeName own)) ls → (p : Statement)
        → IsOfLine limit own Named is_declared (IsOf v) (map seen_line ls) p → IsGood all p
    good_of ls free p o =
        let s = o.statement in
        let fine = seen_free ls free o.symbols o.line in
        let refs = statement_refs (IsFreeNumber own) v o.symbols s o.is fine in
        let out =
        (or_parts (list_any has_great_digits (places s)) (list_any is_out (places s)) (o.faultless index_out)).1 in
        let names = names_of_refs own (λ (r : Ref). IsFreeNumber own r.name) s refs out p o.expanded in
        let is = none_among is_no_statement (expand own s) p (o.faultless no_statement) o.expanded in
        record {
          free = name_map (IsNameOf own (λ (r : Ref). IsFreeNumber own r.name)) IsFreeWord free_word p names;
          short = all_short p is;
          trees = real_of v o.symbols s p o.is o.expanded;
          is = is;
        }
      where
        of_line : (symbols : List is.Symbol) (s : Indexed Tree) (q : Statement) → IsStatement symbols s
            → Among q (expand own s)
            → Each IsReal (expressions (numbered all q))
        of_line symbols s q stands m =
            expanded_real own all stands.line q
            (subst (λ (u : Indexed Tree). Among q (expand own u)) (sym stands.statement_is) m)

        real_of : (u : Version) (symbols : List is.Symbol) (s : Indexed Tree) (q : Statement) → IsOf u symbols s
            → Among q (expand own s) → Each IsReal (expressions (numbered all q))
        real_of one symbols s q stands m = of_line symbols s q stands.0 m
        real_of two symbols s q stands m = of_line symbols s q stands m

        seen_names : (xs : List Symbol) → Each (HasFreeName own) xs
            → Each (IfName (IsFreeNumber own)) (seen_line xs)
        seen_names [] h = tt
        seen_names (symbol.Name k ∷ xs) h = (h.0, seen_names xs h.1)
        seen_names (symbol.Digits n ∷ xs) h = (tt, seen_names xs h.1)
        seen_names (symbol.Sign m ∷ xs) h = (tt, seen_names xs h.1)
        seen_names (symbol.Reserved w ∷ xs) h = (tt, seen_names xs h.1)

        seen_free : (ls : List (List Symbol)) → Each (Each (HasFreeName own)) ls → (l : List is.Symbol)
            → Among l (map seen_line ls) → Each (IfName (IsFreeNumber own)) l
        seen_free [] h l m = elim m [ ]
        seen_free (x ∷ ls) h l here = seen_names x h.0
        seen_free (x ∷ ls) h l (there m) = seen_free ls h.1 l m

        free_word : (n : Name) → IsNameOf own (λ (r : Ref). IsFreeNumber own r.name) n → IsFreeWord n
        free_word n h =
            subst IsFreeWord (sym h.name_is)
            (indexed_word own h.setting h.named.indices (word_at own h.named.name) h.within h.holds)

    all_good : (ls : List (List Symbol)) → Each (Each (HasFreeName own)) ls → (list : List Statement)
        → Each (IsOfLine limit own Named is_declared (IsOf v) (map seen_line ls)) list → Each (IsGood all) list
    all_good ls free [] h = tt
    all_good ls free (p ∷ list) h = (good_of ls free p h.0, all_good ls free list h.1)

    -- each word is one, where the names that come are
    steps_words : (k : Named) (ps : List Statement) → Each (IsGood all) ps → Each IsWord k.words
        → Each IsWord (steps k ps).words
    steps_words k [] good words = words
    steps_words k (p ∷ ps) good words =
        let names = each_map IsFreeWord IsWord (λ n h. h.0) (names_of p) (of_names IsFreeWord p good.0.free) in
        steps_words (named_behind k p) ps good.1 (words_words (names_of p) k.words words names)

    lines_words : (ls : List (List is.Symbol)) (e : St) (list : List Statement) (f : St) → AreRead e ls list f
        → Each (IsGood all) list → Each IsWord e.known.words → Each IsWord f.known.words
    lines_words [] e list f h good words = subst (λ (x : St). Each IsWord x.known.words) h.1 words
    lines_words ([] ∷ ls) e list f h good words = lines_words ls e list f h good words
    lines_words ((x ∷ xs) ∷ ls) e list f h good words =
        let ps = expand own h.0 in
        let parts = subst (Each (IsGood all)) h.4 good in
        lines_words ls (after e h.0) h.1 f h.5 (each_right (IsGood all) ps h.1 parts)
        (steps_words e.known ps (each_left (IsGood all) ps h.1 parts) words)

-- a word has no dot
run_plain : (bytes : List ℕ) → GoesOn bytes → IsPlain bytes
run_plain [] h = tt
run_plain (b ∷ bytes) h = (byte_plain b h.0, run_plain bytes h.1)

word_plain : (name : List ℕ) → IsWord name → IsPlain name
word_plain [] h = absurd h
word_plain (b ∷ bytes) h = (first_plain b h.0, run_plain bytes h.1)

-- ---- of a text
-- its words, with those that come, are different words
pub record AreWords (words : List Name) : Type 0 where
  pub distinct : AreDistinct words
  pub are : Each IsWord words
  pub plain : Each IsPlain words

module _ (limit : ℕ) (text : List ℕ) (words : List Name) (list : List Own) (known : Earlier)
    (read : Reads limit text words list known) where
  abbrev tokens : List Token
  tokens = read.tokens

  abbrev own : List Name
  own = words_of text tokens

  abbrev v : Version
  v = text_version text tokens

  abbrev ls : List (List Symbol)
  ls = text_lines text own tokens

  abbrev last : St limit own v
  last = record { known = record { words = words; earlier = known }; total = read.total }

  goods : Each (IsGood words) read.plain
  goods =
      all_good limit own v words ls (text_free text tokens read.are_tokens) read.plain
      (all_of_lines limit own Named Fault in_order (has_later limit) named_behind is_declared (IsOf v)
      (map seen_line ls)
      (in_front limit v own) read.plain last read.lines.follows)

  pub text_words : AreWords words
  text_words =
      let are =
      lines_words limit own v words (map seen_line ls) (in_front limit v own) read.plain last read.lines.follows goods
      (tokens_word text tokens read.are_tokens) in
      record {
        distinct =
            lines_distinct limit own v (map seen_line ls) (in_front limit v own) read.plain last read.lines.follows
            (words_distinct (flat_map (word_in text) tokens) [] tt);
        are = are;
        plain = each_map IsWord IsPlain word_plain words are;
      }

  pub text_chain : Chain limit words (start (length words)) list known
  text_chain =
      subst (λ (l : List Own). Chain limit words (start (length words)) l known) read.list_is
      (chain_of limit words read.plain (start (length words)) known (read_linked limit text words list known read)
      (read_among limit text words list known read) goods)
