-- What a text of either version without the word `over` reads as names no set.
use Rattle.std.proofs.Common.{◌≡◌, ◌≢◌, ℕ, List, [], ◌∷◌, ◌++◌, map, refl, ap, subst}
use Rattle.std.specs.Prelude.{Option, Some, None}
use Rattle.rob_index.proofs.LinesRead.KeptLemmas.{all_of_lines}
use Rattle.rob_index.proofs.Names.NamingLemmas.{among_mapped}
use Rattle.rob_index.specs.Settings.{Setting, settings}
use Rattle.rob_index.specs.Expansion.{expand, optional_name, ranges_of, statement_at}
use Rattle.rob_index.specs.Grammar.{Expr, spell_expr, spell_list, spell_number, spell_over, spell_ranges, spell_ref}
use Rattle.rob_index.specs.Kept.{IsOfLine}
use Rattle.rob_index.specs.Lines.{IsStatement, spell_line, spell_ranged, spell_rel, spell_share, spell_sides, statement_of}
use Rattle.rob_index.specs.Membership.{Among}
use Rattle.rob_index.specs.Reading.{Version, one, two, IsOf, State}
use Rattle.rob_index.specs.Statements as stated
use Rattle.rob_index.specs.Statements.{Indexed, Name, Ref, Sides, Tree}
use Rattle.rob_index.specs.Symbols as is
use Rattle.rob_meaning.proofs.Lists.EachLemmas.{each_left, each_right}
use Rattle.rob_meaning.specs.Places.{Each}
use Rattle.rob_parse.specs.Modelled.{HasNoOver, NamesNoSet}
use Rattle.rob_round_trip.proofs.Indexed.ReadLengths.{seen_among}
use Rattle.rob_rules.specs.Faults.{in_order}
use Rattle.rob_rules.specs.Names.{Named, named_behind}
use Rattle.rob_rules.specs.Scopes.{Earlier}
use Rattle.rob_rules.specs.Texts.{Reads, has_later, in_front, is_declared}
use Rattle.rob_rules.specs.declared.fault.Fault.{Fault}
use Rattle.rob_syntax.specs.Numbered.{numbered, numbered_over}
use Rattle.rob_syntax.specs.SeenSymbols.{seen_line, seen_symbol}
use Rattle.rob_syntax.specs.Symbols.{words_of}
use Rattle.rob_syntax.specs.Versions.{text_lines, text_version}
use Rattle.rob_syntax.specs.declared.symbol.Keyword.{Keyword}
use Rattle.rob_syntax.specs.declared.symbol.Keyword.TheVariants as word
use Rattle.rob_syntax.specs.declared.symbol.Symbol.{Symbol}
use Rattle.rob_syntax.specs.declared.symbol.Symbol.TheVariants.{Name as NameOf, Digits, Sign, Reserved}
use Rattle.rob_syntax.specs.declared.syntax.Statement.{Statement}

-- ---- symbols
-- the symbol isn't the word `over`
abbrev IsQuiet : is.Symbol → Type 0
IsQuiet x = x ≢ is.word is.over

abbrev IsQuietHere : Symbol → Type 0
IsQuietHere x = x ≢ Reserved word.Over

keyword_quiet : (w : Keyword) → IsQuietHere (Reserved w) → IsQuiet (seen_symbol (Reserved w))
keyword_quiet word.Uncertain h = λ e. cc
keyword_quiet word.Set h = λ e. cc
keyword_quiet word.Budget h = λ e. cc
keyword_quiet word.Var h = λ e. cc
keyword_quiet word.Adaptive h = λ e. cc
keyword_quiet word.Minimise h = λ e. cc
keyword_quiet word.Maximise h = λ e. cc
keyword_quiet word.Row h = λ e. cc
keyword_quiet word.In h = λ e. cc
keyword_quiet word.At h = λ e. cc
keyword_quiet word.By h = λ e. cc
keyword_quiet word.Over h = absurd (h refl)
keyword_quiet word.Sum h = λ e. cc
keyword_quiet word.For h = λ e. cc
keyword_quiet word.To h = λ e. cc
keyword_quiet word.Model h = λ e. cc
keyword_quiet word.Unused h = λ e. cc

symbol_quiet : (x : Symbol) → IsQuietHere x → IsQuiet (seen_symbol x)
symbol_quiet (NameOf k) h = λ e. cc
symbol_quiet (Digits n) h = λ e. cc
symbol_quiet (Sign m) h = λ e. cc
symbol_quiet (Reserved w) h = keyword_quiet w h

line_quiet : (xs : List Symbol) → Each IsQuietHere xs → Each IsQuiet (seen_line xs)
line_quiet [] h = tt
line_quiet (x ∷ xs) h = (symbol_quiet x h.0, line_quiet xs h.1)

lines_quiet : (ls : List (List Symbol)) → Each (Each IsQuietHere) ls → Each (λ l. Each IsQuiet (seen_line l)) ls
lines_quiet [] h = tt
lines_quiet (l ∷ ls) h = (line_quiet l h.0, lines_quiet ls h.1)

-- ---- statements with indices
-- the statement neither declares a set nor names one at its end
abbrev HasNoSet : Indexed Tree → Type 0
HasNoSet (stated.over r rs) = ⊥
HasNoSet (stated.set s rs) = s.over ≡ None
HasNoSet (stated.budget n ms o) = o ≡ None
HasNoSet (stated.goal s e o rs) = o ≡ None
HasNoSet (stated.row r s rs) = s.over ≡ None
HasNoSet _ = Unit {0}

none_over : (o : Option Ref) → Each IsQuiet (spell_over o) → o ≡ None
none_over None h = refl
none_over (Some r) h = absurd (h.0 refl)

none_sides : (s : Sides Expr) → Each IsQuiet (spell_sides s) → s.over ≡ None
none_sides s h =
    let behind =
    (each_right IsQuiet (spell_expr s.left) (spell_rel s.rel ∷ (spell_expr s.right ++ spell_over s.over)) h).1 in
    none_over s.over (each_right IsQuiet (spell_expr s.right) (spell_over s.over) behind)

quiet_line : (l : Indexed Expr) → Each IsQuiet (spell_line l) → HasNoSet (statement_of l)
quiet_line (stated.uncertain r b rs) h = tt
quiet_line (stated.over r rs) h = h.0 refl
quiet_line (stated.set s rs) h = none_sides s (each_left IsQuiet (spell_sides s) (spell_ranges rs) h.1)
quiet_line (stated.budget n ms o) h =
    let members = spell_list (spell_ranged spell_share) ms in
    let behind = (each_right IsQuiet (spell_number n) (is.sign is.colon ∷ (members ++ spell_over o)) h.1).1 in
    none_over o (each_right IsQuiet members (spell_over o) behind)
quiet_line (stated.variable r b rs) h = tt
quiet_line (stated.adaptive r on b rs) h = tt
quiet_line (stated.goal s e o rs) h =
    let behind = each_right IsQuiet (spell_expr e) (spell_over o ++ spell_ranges rs) h.1 in
    none_over o (each_left IsQuiet (spell_over o) (spell_ranges rs) behind)
quiet_line (stated.row r s rs) h =
    let behind = (each_right IsQuiet (spell_ref r) (is.sign is.colon ∷ (spell_sides s ++ spell_ranges rs)) h.1).1 in
    none_sides s (each_left IsQuiet (spell_sides s) (spell_ranges rs) behind)

module _ (own words : List Name) where
  over_none : (setting : Setting) (o : Option Ref) → o ≡ None → numbered_over words (optional_name own setting o) ≡ None
  over_none setting o none = ap (λ (x : Option Ref). numbered_over words (optional_name own setting x)) none

  at_quiet : (s : Indexed Tree) (setting : Setting) → HasNoSet s
      → NamesNoSet (numbered words (statement_at own s setting))
  at_quiet (stated.uncertain r b rs) setting h = refl
  at_quiet (stated.over r rs) setting h = absurd h
  at_quiet (stated.set s rs) setting h = over_none setting s.over h
  at_quiet (stated.budget n ms o) setting h = over_none setting o h
  at_quiet (stated.variable r b rs) setting h = refl
  at_quiet (stated.adaptive r on b rs) setting h = refl
  at_quiet (stated.goal s e o rs) setting h = over_none setting o h
  at_quiet (stated.row r s rs) setting h = over_none setting s.over h

  of_statement : (symbols : List is.Symbol) (s : Indexed Tree) (p : stated.Statement) → IsStatement symbols s
      → Each IsQuiet symbols → Among p (expand own s) → NamesNoSet (numbered words p)
  of_statement symbols s p stands quiet m =
      let from = among_mapped (statement_at own s) (settings (ranges_of s) []) p m in
      let none = subst HasNoSet stands.statement_is
      (quiet_line stands.line (subst (Each IsQuiet) stands.spelled quiet)) in
      subst (λ (q : stated.Statement). NamesNoSet (numbered words q)) from.2 (at_quiet s from.0 none)

  of_version : (v : Version) (symbols : List is.Symbol) (s : Indexed Tree) (p : stated.Statement) → IsOf v symbols s
      → Each IsQuiet symbols → Among p (expand own s) → NamesNoSet (numbered words p)
  of_version one symbols s p stands quiet m = of_statement symbols s p stands.0 quiet m
  of_version two symbols s p stands quiet m = of_statement symbols s p stands quiet m

  of_lines : (limit : ℕ) (v : Version) (ls : List (List Symbol)) → Each (Each IsQuietHere) ls
      → (ps : List stated.Statement)
      → Each (IsOfLine limit own Named is_declared (IsOf v) (map seen_line ls)) ps
      → Each NamesNoSet (map (numbered words) ps)
  of_lines limit v ls quiet [] h = tt
  of_lines limit v ls quiet (p ∷ ps) h =
      let o = h.0 in (
        of_version v o.symbols o.statement p o.is
            (seen_among (Each IsQuiet) ls (lines_quiet ls quiet) o.symbols o.line) o.expanded,
        of_lines limit v ls quiet ps h.1,
      )

pub quiet_statements : (limit : ℕ) (text : List ℕ) (words : List (List ℕ)) (list : List Statement) (known : Earlier)
    (read : Reads limit text words list known) → HasNoOver (text_lines text (words_of text read.tokens) read.tokens)
    → Each NamesNoSet list
quiet_statements limit text words list known read quiet =
    let own = words_of text read.tokens in
    let v = text_version text read.tokens in
    let ls = text_lines text own read.tokens in
    let last : State limit own Named Fault in_order (has_later limit) named_behind is_declared (IsOf v) =
    record { known = record { words = words; earlier = known }; total = read.total } in
    subst (Each NamesNoSet) read.list_is
    (of_lines own words limit v ls quiet read.plain
    (all_of_lines limit own Named Fault in_order (has_later limit) named_behind is_declared (IsOf v) (map seen_line ls)
    (in_front limit v own) read.plain last read.lines.follows))
