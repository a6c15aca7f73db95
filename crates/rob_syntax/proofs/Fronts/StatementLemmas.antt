-- Lines from their keyword and what stands behind it.
use Rattle.std.proofs.Common.{◌≡◌, true, false, List, [], ◌∷◌, Option, refl, sym, ap, ◌∙◌, subst, append-nil}
use Rattle.std.specs.Prelude.{Result, MatchResult, IsErrAnd}
use Rattle.rob_index.specs.Symbols.{Symbol, word}
use Rattle.rob_index.specs.Symbols as is
use Rattle.rob_index.specs.Statements.{Numeral, Bounds, Sense, minimise, maximise, Ref, Range, Ranged, Share, Sides, Indexed, Tree, uncertain, over, set, budget, variable, adaptive, goal, row}
use Rattle.rob_index.specs.Grammar.{Expr}
use Rattle.rob_index.specs.FewIndices.{has_few_indices}
use Rattle.rob_index.specs.Lines.{spell_line, statement_of, IsLine, IsStatement}
use Rattle.rob_syntax.specs.Fronts.{EndsLine, Found, IsMissing, HasCause, Reads}
use Rattle.rob_syntax.specs.Parts.{spell_named, spell_declared, spell_related, tree_related, spell_row, tree_row, spell_goal, tree_goal, spell_budget, spell_adaptive}
use Rattle.rob_syntax.specs.Whole.{ReadsLine, IsNoLine, HasLineCause, IsNoStatement, HasStatementCause}
use Rattle.rob_syntax.specs.Seen.{seen_statement}
use Rattle.rob_syntax.specs.SeenSymbols.{seen_keyword}
use Rattle.rob_syntax.specs.declared.syntax.Indexed.{Indexed as Seen}
use Rattle.rob_syntax.specs.declared.symbol.Keyword.{Keyword}
use Rattle.rob_syntax.specs.declared.symbol.Keyword.TheVariants as keyword
use Rattle.rob_syntax.specs.declared.error.ParseErr.{ParseErr}
use Rattle.rob_syntax.specs.declared.error.ParseErr.TheVariants.{NotAStatement, Memory}
use Rattle.rob_syntax.proofs.Fronts.PartLemmas.{refused_with}

-- ---- what a line with a keyword is
-- some parts stand behind the keyword, and the line is made of them
record MadeOf {P : Type 0} (spell : P → List Symbol) (make : P → Indexed Expr) (behind : List Symbol) (l : Indexed Expr)
    : Type 0 where
  parts : P
  spelled : behind ≡ spell parts
  line_is : l ≡ make parts

-- the lines with their parts
abbrev pub make_uncertain : Ref × (Option Bounds × List Range) → Indexed Expr
make_uncertain p = uncertain p.0 p.1.0 p.1.1

abbrev pub make_variable : Ref × (Option Bounds × List Range) → Indexed Expr
make_variable p = variable p.0 p.1.0 p.1.1

abbrev pub make_over : Ref × List Range → Indexed Expr
make_over p = over p.0 p.1

abbrev pub make_set : Sides Expr × List Range → Indexed Expr
make_set p = set p.0 p.1

abbrev pub make_budget : Numeral × (List (Ranged Share) × Option Ref) → Indexed Expr
make_budget p = budget p.0 p.1.0 p.1.1

abbrev pub make_adaptive : Ref × (List (Ranged Ref) × (Option Bounds × List Range)) → Indexed Expr
make_adaptive p = adaptive p.0 p.1.0 p.1.1.0 p.1.1.1

abbrev pub make_goal : Sense → Expr × (Option Ref × List Range) → Indexed Expr
make_goal s p = goal s p.0 p.1.0 p.1.1

abbrev pub make_row : Ref × (Sides Expr × List Range) → Indexed Expr
make_row p = row p.0 p.1.0 p.1.1

-- what a line with this keyword is made of
abbrev Behind : is.Keyword → List Symbol → Indexed Expr → Type 0
Behind is.uncertain behind l = MadeOf spell_declared make_uncertain behind l
Behind is.over behind l = MadeOf spell_named make_over behind l
Behind is.set behind l = MadeOf spell_related make_set behind l
Behind is.budget behind l = MadeOf spell_budget make_budget behind l
Behind is.var behind l = MadeOf spell_declared make_variable behind l
Behind is.adaptive behind l = MadeOf spell_adaptive make_adaptive behind l
Behind is.minimise behind l = MadeOf spell_goal (make_goal minimise) behind l
Behind is.maximise behind l = MadeOf spell_goal (make_goal maximise) behind l
Behind is.row behind l = MadeOf spell_row make_row behind l
Behind _ behind l = ⊥

-- a line's keyword, and what is behind it
first_of : {k w : is.Keyword} {x y : List Symbol} → word k ∷ x ≡ word w ∷ y → (k ≡ w) × (x ≡ y)
first_of same = (cc, cc)

at_keyword : {w : is.Keyword} {tail : List Symbol} (k : is.Keyword) (behind : List Symbol) (l : Indexed Expr)
    → word k ∷ behind ≡ word w ∷ tail → Behind w tail l → Behind k behind l
at_keyword {w} {tail} k behind l same made =
    let e = first_of same in
    subst (λ (v : is.Keyword). Behind v behind l) (sym e.0) (subst (λ (x : List Symbol). Behind w x l) (sym e.1) made)

made_of : (k : is.Keyword) (behind : List Symbol) (l : Indexed Expr) → word k ∷ behind ≡ spell_line l
    → Behind k behind l
made_of k behind (uncertain r b rs) same =
    at_keyword k behind _ same (record { parts = (r, (b, rs)); spelled = refl; line_is = refl })
made_of k behind (over r rs) same =
    at_keyword k behind _ same (record { parts = (r, rs); spelled = refl; line_is = refl })
made_of k behind (set s rs) same =
    at_keyword k behind _ same (record { parts = (s, rs); spelled = refl; line_is = refl })
made_of k behind (budget n ms o) same =
    at_keyword k behind _ same (record { parts = (n, (ms, o)); spelled = refl; line_is = refl })
made_of k behind (variable r b rs) same =
    at_keyword k behind _ same (record { parts = (r, (b, rs)); spelled = refl; line_is = refl })
made_of k behind (adaptive r on b rs) same =
    at_keyword k behind _ same (record { parts = (r, (on, (b, rs))); spelled = refl; line_is = refl })
made_of k behind (goal minimise e o rs) same =
    at_keyword k behind _ same (record { parts = (e, (o, rs)); spelled = refl; line_is = refl })
made_of k behind (goal maximise e o rs) same =
    at_keyword k behind _ same (record { parts = (e, (o, rs)); spelled = refl; line_is = refl })
made_of k behind (row r s rs) same =
    at_keyword k behind _ same (record { parts = (r, (s, rs)); spelled = refl; line_is = refl })

-- ---- lines of a keyword
-- the whole of what is behind is spelled as these parts alone
module _ {P : Type 0} {spell : P → List Symbol} {symbols behind : List Symbol} (k : is.Keyword)
    (make : P → Indexed Expr)
    (first : symbols ≡ word k ∷ behind) (spelled : (p : P) → spell_line (make p) ≡ word k ∷ spell p)
    (made : (l : Indexed Expr) → word k ∷ behind ≡ spell_line l → MadeOf spell make behind l) where
  line_read : {p : P} {s : Indexed Tree} → Found spell EndsLine behind [] p → statement_of (make p) ≡ s
      → ReadsLine symbols s
  line_read {p} {s} found is = record {
    line = make p;
    spelled =
        first ∙ ap (λ (l : List Symbol). word k ∷ l) (found.spelled ∙ append-nil (spell p)) ∙ sym (spelled p);
    only = λ other same.
        let m = made other (sym first ∙ same) in
        m.line_is ∙ ap make (found.only m.parts [] (m.spelled ∙ sym (append-nil (spell m.parts))) refl).0;
    statement_is = is;
  }

  no_line : IsMissing spell EndsLine behind → IsNoLine symbols
  no_line missing other same =
      let m = made other (sym first ∙ same) in
      missing.none m.parts [] (m.spelled ∙ sym (append-nil (spell m.parts))) refl

-- a refusal of what is behind the keyword is one of the line
line_cause : {A : Type 0} {spell : A → List Symbol} {EndsItem : List Symbol → Type 0} {behind symbols : List Symbol}
    → (IsMissing spell EndsItem behind → IsNoLine symbols) → (e : ParseErr) → HasCause spell EndsItem behind e
    → HasLineCause symbols e
line_cause up NotAStatement cause = up cause
line_cause up Memory cause = tt

module _ {symbols behind : List Symbol} {w : Keyword} (first : symbols ≡ word (seen_keyword w) ∷ behind) where
  -- the keyword in front
  keyword_first : {k : Keyword} → w ≡ k → symbols ≡ word (seen_keyword k) ∷ behind
  keyword_first word_is = first ∙ ap (λ (v : Keyword). word (seen_keyword v) ∷ behind) word_is

  pub is_uncertain : {p : Ref × (Option Bounds × List Range)} → w ≡ keyword.Uncertain
      → Found spell_declared EndsLine behind [] p → ReadsLine symbols (uncertain p.0 p.1.0 p.1.1)
  is_uncertain word_is found =
      line_read is.uncertain make_uncertain (keyword_first word_is) (λ p. refl) (λ l. made_of is.uncertain behind l)
      found refl

  pub no_uncertain : (e : ParseErr) → w ≡ keyword.Uncertain → HasCause spell_declared EndsLine behind e
      → HasLineCause symbols e
  no_uncertain e word_is cause =
      line_cause
      (no_line is.uncertain make_uncertain (keyword_first word_is) (λ p. refl) (λ l. made_of is.uncertain behind l))
      e cause

  pub is_variable : {p : Ref × (Option Bounds × List Range)} → w ≡ keyword.Var
      → Found spell_declared EndsLine behind [] p → ReadsLine symbols (variable p.0 p.1.0 p.1.1)
  is_variable word_is found =
      line_read is.var make_variable (keyword_first word_is) (λ p. refl) (λ l. made_of is.var behind l) found refl

  pub no_variable : (e : ParseErr) → w ≡ keyword.Var → HasCause spell_declared EndsLine behind e
      → HasLineCause symbols e
  no_variable e word_is cause =
      line_cause
      (no_line is.var make_variable (keyword_first word_is) (λ p. refl) (λ l. made_of is.var behind l)) e cause

  pub is_over : {p : Ref × List Range} → w ≡ keyword.Over → Found spell_named EndsLine behind [] p
      → ReadsLine symbols (over p.0 p.1)
  is_over word_is found =
      line_read is.over make_over (keyword_first word_is) (λ p. refl) (λ l. made_of is.over behind l) found refl

  pub no_over : (e : ParseErr) → w ≡ keyword.Over → HasCause spell_named EndsLine behind e → HasLineCause symbols e
  no_over e word_is cause =
      line_cause (no_line is.over make_over (keyword_first word_is) (λ p. refl) (λ l. made_of is.over behind l)) e cause

  pub is_set : {s : Sides Tree} {rs : List Range} → w ≡ keyword.Set
      → Reads spell_related EndsLine tree_related behind [] (s, rs) → ReadsLine symbols (set s rs)
  is_set word_is read =
      line_read is.set make_set (keyword_first word_is) (λ p. refl) (λ l. made_of is.set behind l) read.found
      (ap (λ (p : Sides Tree × List Range). set p.0 p.1) read.value_is)

  pub no_set : (e : ParseErr) → w ≡ keyword.Set → HasCause spell_related EndsLine behind e → HasLineCause symbols e
  no_set e word_is cause =
      line_cause (no_line is.set make_set (keyword_first word_is) (λ p. refl) (λ l. made_of is.set behind l)) e cause

  pub is_budget : {p : Numeral × (List (Ranged Share) × Option Ref)} → w ≡ keyword.Budget
      → Found spell_budget EndsLine behind [] p → ReadsLine symbols (budget p.0 p.1.0 p.1.1)
  is_budget word_is found =
      line_read is.budget make_budget (keyword_first word_is) (λ p. refl) (λ l. made_of is.budget behind l) found refl

  pub no_budget : (e : ParseErr) → w ≡ keyword.Budget → HasCause spell_budget EndsLine behind e → HasLineCause symbols e
  no_budget e word_is cause =
      line_cause
      (no_line is.budget make_budget (keyword_first word_is) (λ p. refl) (λ l. made_of is.budget behind l)) e cause

  pub is_adaptive : {p : Ref × (List (Ranged Ref) × (Option Bounds × List Range))} → w ≡ keyword.Adaptive
      → Found spell_adaptive EndsLine behind [] p → ReadsLine symbols (adaptive p.0 p.1.0 p.1.1.0 p.1.1.1)
  is_adaptive word_is found =
      line_read is.adaptive make_adaptive (keyword_first word_is) (λ p. refl) (λ l. made_of is.adaptive behind l) found
      refl

  pub no_adaptive : (e : ParseErr) → w ≡ keyword.Adaptive → HasCause spell_adaptive EndsLine behind e
      → HasLineCause symbols e
  no_adaptive e word_is cause =
      line_cause
      (no_line is.adaptive make_adaptive (keyword_first word_is) (λ p. refl) (λ l. made_of is.adaptive behind l))
      e cause

  pub is_minimise : {t : Tree} {o : Option Ref} {rs : List Range} → w ≡ keyword.Minimise
      → Reads spell_goal EndsLine tree_goal behind [] (t, (o, rs)) → ReadsLine symbols (goal minimise t o rs)
  is_minimise word_is read =
      line_read is.minimise (make_goal minimise) (keyword_first word_is) (λ p. refl) (λ l. made_of is.minimise behind l)
      read.found
      (ap (λ (p : Tree × (Option Ref × List Range)). goal minimise p.0 p.1.0 p.1.1) read.value_is)

  pub no_minimise : (e : ParseErr) → w ≡ keyword.Minimise → HasCause spell_goal EndsLine behind e
      → HasLineCause symbols e
  no_minimise e word_is cause =
      line_cause
      (no_line is.minimise (make_goal minimise) (keyword_first word_is) (λ p. refl) (λ l. made_of is.minimise behind l))
      e cause

  pub is_maximise : {t : Tree} {o : Option Ref} {rs : List Range} → w ≡ keyword.Maximise
      → Reads spell_goal EndsLine tree_goal behind [] (t, (o, rs)) → ReadsLine symbols (goal maximise t o rs)
  is_maximise word_is read =
      line_read is.maximise (make_goal maximise) (keyword_first word_is) (λ p. refl) (λ l. made_of is.maximise behind l)
      read.found
      (ap (λ (p : Tree × (Option Ref × List Range)). goal maximise p.0 p.1.0 p.1.1) read.value_is)

  pub no_maximise : (e : ParseErr) → w ≡ keyword.Maximise → HasCause spell_goal EndsLine behind e
      → HasLineCause symbols e
  no_maximise e word_is cause =
      line_cause
      (no_line is.maximise (make_goal maximise) (keyword_first word_is) (λ p. refl) (λ l. made_of is.maximise behind l))
      e cause

  pub is_row : {r : Ref} {s : Sides Tree} {rs : List Range} → w ≡ keyword.Row
      → Reads spell_row EndsLine tree_row behind [] (r, (s, rs)) → ReadsLine symbols (row r s rs)
  is_row word_is read =
      line_read is.row make_row (keyword_first word_is) (λ p. refl) (λ l. made_of is.row behind l) read.found
      (ap (λ (p : Ref × (Sides Tree × List Range)). row p.0 p.1.0 p.1.1) read.value_is)

  pub no_row : (e : ParseErr) → w ≡ keyword.Row → HasCause spell_row EndsLine behind e → HasLineCause symbols e
  no_row e word_is cause =
      line_cause (no_line is.row make_row (keyword_first word_is) (λ p. refl) (λ l. made_of is.row behind l)) e cause

  -- other keywords begin no line
  pub no_at : w ≡ keyword.At → IsNoLine symbols
  no_at word_is other same = made_of is.at behind other (sym (keyword_first word_is) ∙ same)

  pub no_by : w ≡ keyword.By → IsNoLine symbols
  no_by word_is other same = made_of is.by behind other (sym (keyword_first word_is) ∙ same)

  pub no_within : w ≡ keyword.In → IsNoLine symbols
  no_within word_is other same = made_of is.within behind other (sym (keyword_first word_is) ∙ same)

  pub no_sum : w ≡ keyword.Sum → IsNoLine symbols
  no_sum word_is other same = made_of is.sum behind other (sym (keyword_first word_is) ∙ same)

  pub no_for : w ≡ keyword.For → IsNoLine symbols
  no_for word_is other same = made_of is.for behind other (sym (keyword_first word_is) ∙ same)

  pub no_to : w ≡ keyword.To → IsNoLine symbols
  no_to word_is other same = made_of is.to behind other (sym (keyword_first word_is) ∙ same)

  pub no_model : w ≡ keyword.Model → IsNoLine symbols
  no_model word_is other same = made_of is.model behind other (sym (keyword_first word_is) ∙ same)

  pub no_unused : w ≡ keyword.Unused → IsNoLine symbols
  no_unused word_is other same = made_of is.unused behind other (sym (keyword_first word_is) ∙ same)

-- a goal's sense
pub is_goal_of : {symbols : List Symbol} {s t : Sense} {tree : Tree} {o : Option Ref} {rs : List Range} → s ≡ t
    → ReadsLine symbols (goal t tree o rs) → ReadsLine symbols (goal s tree o rs)
is_goal_of {symbols} {s} {t} {tree} {o} {rs} same read =
    subst (λ (v : Sense). ReadsLine symbols (goal v tree o rs)) (sym same) read

-- at the exit of a `?`
pub line_refused : (symbols : List Symbol) (r : Result Seen ParseErr) (e : ParseErr) → IsErrAnd r (λ f. f ≡ e)
    → HasLineCause symbols e
    → record { read : MatchResult r (λ s. ReadsLine symbols (seen_statement s)) (λ f. HasLineCause symbols f) }
line_refused symbols r e is cause = record {
  read = refused_with r (λ s. ReadsLine symbols (seen_statement s)) (λ (f : ParseErr). HasLineCause symbols f) e is
      cause;
}

-- each line begins with a keyword
pub no_keyword : {symbols : List Symbol}
    → ((w : is.Keyword) (rest : List Symbol) → symbols ≡ word w ∷ rest → ⊥) → IsNoLine symbols
no_keyword none (uncertain r b rs) same = none is.uncertain _ same
no_keyword none (over r rs) same = none is.over _ same
no_keyword none (set s rs) same = none is.set _ same
no_keyword none (budget n ms o) same = none is.budget _ same
no_keyword none (variable r b rs) same = none is.var _ same
no_keyword none (adaptive r on b rs) same = none is.adaptive _ same
no_keyword none (goal minimise e o rs) same = none is.minimise _ same
no_keyword none (goal maximise e o rs) same = none is.maximise _ same
no_keyword none (row r s rs) same = none is.row _ same

-- ---- statements
-- whether a line's ranges and members are as they may be doesn't go by its trees
line_kept : (l : Indexed Expr) → IsLine (statement_of l) → IsLine l
line_kept (uncertain r b rs) few = few
line_kept (over r rs) few = few
line_kept (set s rs) few = few
line_kept (budget n ms o) few = few
line_kept (variable r b rs) few = few
line_kept (adaptive r on b rs) few = few
line_kept (goal s e o rs) few = few
line_kept (row r s rs) few = few

line_seen : (l : Indexed Expr) → IsLine l → IsLine (statement_of l)
line_seen (uncertain r b rs) few = few
line_seen (over r rs) few = few
line_seen (set s rs) few = few
line_seen (budget n ms o) few = few
line_seen (variable r b rs) few = few
line_seen (adaptive r on b rs) few = few
line_seen (goal s e o rs) few = few
line_seen (row r s rs) few = few

pub statement_read : {symbols : List Symbol} {s : Indexed Tree} → ReadsLine symbols s → IsLine s
    → has_few_indices s ≡ true → IsStatement symbols s
statement_read {symbols} {s} read line few = record {
  line = read.line;
  is_line = line_kept read.line (subst (λ (t : Indexed Tree). IsLine t) (sym read.statement_is) line);
  spelled = read.spelled;
  statement_is = read.statement_is;
  few = few;
}

pub no_statement : {symbols : List Symbol} → IsNoLine symbols → IsNoStatement symbols
no_statement none s is = none is.line is.spelled

pub not_line : {symbols : List Symbol} {s : Indexed Tree} → ReadsLine symbols s → (IsLine s → ⊥) → IsNoStatement symbols
not_line {symbols} {s} read many t is =
    many
    (subst (λ (v : Indexed Tree). IsLine v) read.statement_is
    (line_seen read.line (subst (λ (l : Indexed Expr). IsLine l) (read.only is.line is.spelled) is.is_line)))

pub not_few : {symbols : List Symbol} {s : Indexed Tree} → ReadsLine symbols s → has_few_indices s ≡ false
    → IsNoStatement symbols
not_few {symbols} {s} read many t is =
    let same : t ≡ s =
    sym is.statement_is ∙ ap statement_of (read.only is.line is.spelled) ∙ read.statement_is in
    let w : true ≡ false = sym is.few ∙ ap has_few_indices same ∙ many in
    cc

-- a refusal of a line is one of a statement
pub statement_cause : (symbols : List Symbol) (e : ParseErr) → HasLineCause symbols e → HasStatementCause symbols e
statement_cause symbols NotAStatement cause = no_statement cause
statement_cause symbols Memory cause = tt
