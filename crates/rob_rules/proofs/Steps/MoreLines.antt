-- Lines of either version that are read one behind another.
use Rattle.std.proofs.Common.{◌≡◌, ℕ, ◌+◌, true, eqb, inl, inr, List, [], ◌∷◌, ◌++◌, length, map, refl, sym, ap, ◌∙◌, subst, arith, append-nil, append_assoc, length-append}
use Rattle.std.specs.Prelude.{◌||◌, Bool, fold}
use Rattle.std.proofs.lemmas.Bool.{eqb-true}
use Rattle.std.proofs.lemmas.List.{map-append}
use Rattle.std.proofs.lemmas.List.Sums.{fold-append}
use Rattle.rob_meaning.specs.Places.{Each}
use Rattle.rob_index.specs.Symbols.{Symbol}
use Rattle.rob_index.specs.Statements as stated
use Rattle.rob_index.specs.Statements.{Name}
use Rattle.rob_index.specs.Reading.{Version, LineFault}
use Rattle.rob_lex.specs.declared.token.Token.{Token}
use Rattle.rob_meaning.proofs.Lists.EachLemmas.{each_append}
use Rattle.rob_syntax.specs.declared.symbol.Symbol.{Symbol as Known}
use Rattle.rob_syntax.specs.declared.syntax.Statement.{Statement}
use Rattle.rob_syntax.specs.Known.{texts}
use Rattle.rob_syntax.specs.Numbered.{numbered}
use Rattle.rob_syntax.specs.SeenSymbols.{seen_line}
use Rattle.rob_syntax.specs.Symbols.{symbols_of}
use Rattle.rob_syntax.specs.Versions.{body, body_line, has_token}
use Rattle.rob_rules.specs.declared.fault.Fault.{Fault}
use Rattle.rob_rules.specs.declared.lines.Reader.{Reader}
use Rattle.rob_rules.specs.declared.lines.Stop.{Stop}
use Rattle.rob_rules.specs.declared.lines.Stop.TheVariants as stop
use Rattle.rob_rules.specs.Growing.{AreAmong}
use Rattle.rob_rules.specs.Names.{grown, names_of}
use Rattle.rob_rules.specs.Stages.{BreakRule, HasLineStop, IsBetween, ReadsOn, stage_of}
use Rattle.rob_rules.specs.Texts.{Stage, SomeBreaks}
use Rattle.rob_rules.proofs.Joining.GrowingLemmas.{grown_has, statement_grows}
use Rattle.rob_rules.proofs.Joining.JoinLemmas.{reading_append, breaking_behind}
use Rattle.rob_rules.proofs.Joining.LinkLemmas.{grow_each}
use Rattle.rob_rules.proofs.Steps.StageLemmas.{HasRead}

-- ---- words and numbers
-- the names of statements come behind the words
pub all_grown : (ps : List stated.Statement) (words : List Name)
    → (more : List Name) × (fold grown words ps ≡ words ++ more)
all_grown [] words = ([], sym (append-nil words))
all_grown (p ∷ ps) words =
    let g = grown_has words p in
    let r = all_grown ps (grown words p) in (
      g.0 ++ r.0,
      r.1 ∙ ap (λ (l : List Name). l ++ r.0) g.1 ∙ append_assoc words g.0 r.0,
    )

-- statements whose names are among the words keep their numbers
numbers_stay : (words more : List Name) (ps : List stated.Statement) → Each (λ p. AreAmong words (names_of p)) ps
    → map (numbered (words ++ more)) ps ≡ map (numbered words) ps
numbers_stay words more [] h = refl
numbers_stay words more (p ∷ ps) h =
    let e = statement_grows words more p h.0 in
    let f = numbers_stay words more ps h.1 in
    (λ i. e i ∷ f i)

-- ---- lines
-- the reader's own words
pub between_own : (own : List Name) (r : Reader) → IsBetween own r → IsBetween (texts r.own.keys) r
between_own own r b = subst (λ (w : List Name). IsBetween w r) (sym b.own_are) b

module _ (limit : ℕ) (own : List Name) (version : Version) where
  abbrev Read : List (List Symbol) → Reader → Reader → Type 0
  Read = ReadsOn limit own version

  -- no line is read
  pub read_none : (r : Reader) → IsBetween own r → Read [] r r
  read_none r between = record {
    more = [];
    follows = (refl, refl);
    appended = sym (append-nil r.list);
    grows = refl;
    among = tt;
    between = between;
  }

  -- nor is anything of an empty one
  pub read_empty : (r : Reader) → IsBetween own r → Read ([] ∷ []) r r
  read_empty r between = record {
    more = [];
    follows = (refl, refl);
    appended = sym (append-nil r.list);
    grows = refl;
    among = tt;
    between = between;
  }

  pub read_nothing : (symbols : List Known) → true ≡ eqb (length symbols) 0 → (r : Reader) → IsBetween own r
      → Read (seen_line symbols ∷ []) r r
  read_nothing [] test r between = read_empty r between
  read_nothing (x ∷ symbols) test r between =
      let none : length (x ∷ symbols) ≡ 0 = eqb-true (length (x ∷ symbols)) 0 (sym test) in absurd (omega (arith, none))

  -- some lines are read, and then others
  pub read_join : (xs ys : List (List Symbol)) (old mid new : Reader) → Read xs old mid → Read ys mid new
      → Read (xs ++ ys) old new
  read_join xs ys old mid new a b =
      let words = texts new.words.keys in
      let g = all_grown b.more (texts mid.words.keys) in
      let words_are : words ≡ texts mid.words.keys ++ g.0 = b.grows ∙ g.1 in
      let numbers : map (numbered words) a.more ≡ map (numbered (texts mid.words.keys)) a.more =
      ap (λ (w : List Name). map (numbered w) a.more) words_are
      ∙ numbers_stay (texts mid.words.keys) g.0 a.more a.among in
      record {
        more = a.more ++ b.more;
        follows = reading_append limit own version xs (stage_of limit own version old) a.more
            (stage_of limit own version mid) ys b.more (stage_of limit own version new) a.follows b.follows;
        appended = b.appended
            ∙ ap (λ (l : List Statement). l ++ map (numbered words) b.more)
            (a.appended ∙ ap (λ (l : List Statement). old.list ++ l) (sym numbers))
            ∙ append_assoc old.list (map (numbered words) a.more) (map (numbered words) b.more)
            ∙ ap (λ (l : List Statement). old.list ++ l) (sym (map-append (numbered words) a.more b.more));
        grows = b.grows ∙ ap (λ (w : List Name). fold grown w b.more) a.grows
            ∙ sym (fold-append grown (texts old.words.keys) a.more b.more);
        among = each_append (λ p. AreAmong words (names_of p)) a.more b.more
            (subst (λ (w : List Name). Each (λ p. AreAmong w (names_of p)) a.more) (sym words_are)
            (grow_each (texts mid.words.keys) g.0 a.more a.among)) b.among;
        between = b.between;
      }

  -- ---- how far the reader has come
  abbrev Has : (lines rest : List (List Symbol)) → ℕ → Reader → Reader → Type 0
  Has = HasRead limit own version

  pub read_start : (lines : List (List Symbol)) (r : Reader) → IsBetween own r → Has lines lines 0 r r
  read_start lines r between = record { before = []; cut = refl; count_is = refl; read = read_none r between }

  -- one line more
  pub read_on : (lines : List (List Symbol)) (line : List Symbol) (rest left : List (List Symbol)) (count : ℕ)
      (old mid new : Reader) → Has lines rest count old mid → rest ≡ line ∷ left → Read (line ∷ []) mid new
      → Has lines left (count + 1) old new
  read_on lines line rest left count old mid new so_far is read = record {
    before = so_far.before ++ line ∷ [];
    cut = so_far.cut ∙ ap (λ (l : List (List Symbol)). so_far.before ++ l) is
        ∙ sym (append_assoc so_far.before (line ∷ []) left);
    count_is = omega (arith, so_far.count_is, length-append so_far.before (line ∷ []));
    read = read_join so_far.before (line ∷ []) old mid new so_far.read read;
  }

  -- no line is left
  pub read_all : (lines rest : List (List Symbol)) (count : ℕ) (old new : Reader) → Has lines rest count old new
      → rest ≡ [] → Read lines old new
  read_all lines rest count old new so_far is =
      subst (λ (l : List (List Symbol)). Read l old new)
      (sym (so_far.cut ∙ ap (λ (l : List (List Symbol)). so_far.before ++ l) is ∙ append-nil so_far.before))
      so_far.read

  -- ---- a bad line
  -- what is wrong with a line alone is wrong with it in front of others
  breaks_in_front : (e : Stage limit own version) (line : List Symbol) (left : List (List Symbol))
      (fault : LineFault Fault) (n : ℕ)
      → SomeBreaks limit own version e (line ∷ []) fault n → SomeBreaks limit own version e (line ∷ left) fault n
  breaks_in_front e [] left fault n bad = absurd bad.2
  breaks_in_front e (x ∷ xs) left fault n (inl bad) = inl bad
  breaks_in_front e (x ∷ xs) left fault n (inr bad) = absurd bad.5

  -- the next line is bad
  pub read_breaks : (lines : List (List Symbol)) (line : List Symbol) (rest left : List (List Symbol)) (count : ℕ)
      (old mid : Reader) (rule : ℕ) → Has lines rest count old mid → rest ≡ line ∷ left
      → BreakRule limit own version (stage_of limit own version mid) (line ∷ []) rule 1
      → BreakRule limit own version (stage_of limit own version old) lines rule (count + 1)
  read_breaks lines line rest left count old mid rule so_far is bad = record {
    fault = bad.fault;
    rule_is = bad.rule_is;
    breaks = subst
        (λ (l : List (List Symbol)). SomeBreaks limit own version (stage_of limit own version old) l bad.fault
        (count + 1))
        (sym (so_far.cut ∙ ap (λ (l : List (List Symbol)). so_far.before ++ l) is))
        (subst (λ (n : ℕ). SomeBreaks limit own version (stage_of limit own version old) (so_far.before ++ line ∷ left)
        bad.fault (n + 1)) so_far.count_is
        (breaking_behind limit own version so_far.before (stage_of limit own version old) so_far.read.more
        (stage_of limit own version mid) (line ∷ left) bad.fault 1 so_far.read.follows
        (breaks_in_front (stage_of limit own version mid) line left bad.fault 1 bad.breaks)));
  }

-- ---- the lines of a text
-- the symbols of lines of tokens, in front of which a line with a token has begun or hasn't
abbrev pub symbols_in : (text : List ℕ) (own : List Name) (version : Version) → Bool → List (List Token)
    → List (List Symbol)
symbols_in text own version begun lines = map seen_line (map (symbols_of text version own) (body text begun lines))

module _ (limit : ℕ) (own : List Name) (version : Version) (text : List ℕ) where
  abbrev In : Bool → List (List Token) → List (List Symbol)
  In = symbols_in text own version

  module _ (whole : List (List Symbol)) (begun next : Bool) (rest : List (List Token)) (front : List Token)
      (left : List (List Token)) (read : List Token) (symbols : List Known) (count : ℕ) (old mid : Reader)
      (so_far : HasRead limit own version whole (In begun rest) count old mid) (rest_is : rest ≡ front ∷ left)
      (read_is : read ≡ body_line text begun front) (next_is : next ≡ (begun || has_token front))
      (symbols_are : symbols ≡ symbols_of text version (texts mid.own.keys) read) where
    own_is : texts mid.own.keys ≡ own
    own_is = so_far.read.between.own_are

    -- the next line
    abbrev line : List Symbol
    line = seen_line (symbols_of text version own (body_line text begun front))

    symbols_moved : symbols_of text version (texts mid.own.keys) read
        ≡ symbols_of text version own (body_line text begun front)
    symbols_moved = λ i. symbols_of text version (own_is i) (read_is i)

    line_is : seen_line symbols ≡ line
    line_is = ap seen_line (symbols_are ∙ symbols_moved)

    cut : In begun rest ≡ line ∷ In next left
    cut = ap (In begun) rest_is ∙ ap (λ (b : Bool). line ∷ In b left) (sym next_is)

    pub line_on : (new : Reader) → ReadsOn limit (texts mid.own.keys) version (seen_line symbols ∷ []) mid new
        → HasRead limit own version whole (In next left) (count + 1) old new
    line_on new h =
        read_on limit own version whole line (In begun rest) (In next left) count old mid new so_far
        cut
        (subst (λ (l : List Symbol). ReadsOn limit own version (l ∷ []) mid new) line_is
        (subst (λ (w : List Name). ReadsOn limit w version (seen_line symbols ∷ []) mid new) own_is h))

    -- what is wrong with the next line, as the code has it
    abbrev Stops : Stop → Type 0
    Stops why =
        HasLineStop limit (texts mid.own.keys) version (stage_of limit (texts mid.own.keys) version mid)
        (seen_line symbols) why

    pub line_breaks : (rule : ℕ) (why : Stop) → why ≡ stop.Rule rule → Stops why
        → BreakRule limit own version (stage_of limit own version old) whole rule (count + 1)
    line_breaks rule why is h =
        let bad : Stops (stop.Rule rule) = subst Stops is h in
        read_breaks limit own version whole line (In begun rest) (In next left) count old mid rule so_far cut
        (subst (λ (l : List Symbol). BreakRule limit own version (stage_of limit own version mid) (l ∷ []) rule 1)
        line_is
        (subst
        (λ (w : List Name). BreakRule limit w version (stage_of limit w version mid) (seen_line symbols ∷ []) rule 1)
        own_is bad))
