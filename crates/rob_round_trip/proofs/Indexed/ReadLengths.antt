-- The canonical lines of what a text of either version reads as are few and shallow.
use Rattle.std.proofs.Common.{◌≤◌, ℕ, false, List, [], ◌∷◌, length, map, sym, subst, arith}
use Rattle.std.specs.Prelude.{Option}
use Rattle.rob_index.proofs.Tokens.ExpandedDepths.{expansion_shallow}
use Rattle.rob_index.proofs.LinesRead.KeptLemmas.{all_of_lines, total_counted, total_few}
use Rattle.rob_index.specs.Counting.{lines_tokens}
use Rattle.rob_index.specs.Depths.{deepest, line_depth}
use Rattle.rob_index.specs.Kept.{IsOfLine}
use Rattle.rob_index.specs.Membership.{Among, here, there}
use Rattle.rob_index.specs.Reading.{Version, IsOf, State}
use Rattle.rob_index.specs.Rules.{most_tokens}
use Rattle.rob_index.specs.Statements as stated
use Rattle.rob_index.specs.Symbols as is
use Rattle.rob_lex.specs.Offences.{most_open}
use Rattle.rob_meaning.specs.Places.{Each}
use Rattle.rob_parse.specs.Building.{FitsStatement}
use Rattle.rob_parse.specs.Modelled.{EndsInSet}
use Rattle.rob_round_trip.proofs.Indexed.NumberedCounts.{all_counted, numbered_shallow}
use Rattle.rob_round_trip.proofs.Lengths.ShallowTexts.{read_low}
use Rattle.rob_round_trip.specs.Lines.{AreReadable, CountsSetsFromOne, canonical_line}
use Rattle.rob_round_trip.specs.Pages.{IsShallow, ended}
use Rattle.rob_rules.specs.Faults.{in_order}
use Rattle.rob_rules.specs.Names.{Named, named_behind}
use Rattle.rob_rules.specs.Scopes.{Earlier}
use Rattle.rob_rules.specs.Texts.{Reads, has_later, in_front, is_declared}
use Rattle.rob_rules.specs.declared.fault.Fault.{Fault}
use Rattle.rob_rules.specs.declared.sort.Sort.{Sort}
use Rattle.rob_syntax.specs.Numbered.{numbered}
use Rattle.rob_syntax.specs.SeenSymbols.{seen_line}
use Rattle.rob_syntax.specs.Symbols.{words_of}
use Rattle.rob_syntax.specs.Versions.{text_lines, text_version}
use Rattle.rob_syntax.specs.declared.symbol.Symbol.{Symbol}
use Rattle.rob_syntax.specs.declared.syntax.Statement.{Statement}
use Rattle.rob_write.specs.ExpressionWords.{Naming}

-- what holds of each line as it is seen holds of one of them
pub seen_among : (Q : List is.Symbol → Type 0) (ls : List (List Symbol))
    → Each (λ (l : List Symbol). Q (seen_line l)) ls
    → (l : List is.Symbol) → Among l (map seen_line ls) → Q l
seen_among Q [] h l m = elim m [ ]
seen_among Q (x ∷ ls) h l here = h.0
seen_among Q (x ∷ ls) h l (there m) = seen_among Q ls h.1 l m

module _ (limit : ℕ) (text : List ℕ) (words : List (List ℕ)) (list : List Statement) (known : Earlier)
    (read : Reads limit text words list known) where
  abbrev own : List (List ℕ)
  own = words_of text read.tokens

  abbrev version : Version
  version = text_version text read.tokens

  abbrev lines : List (List is.Symbol)
  lines = map seen_line (text_lines text own read.tokens)

  abbrev St : Type 0
  St = State limit own Named Fault in_order (has_later limit) named_behind is_declared (IsOf version)

  abbrev last : St
  last = record { known = record { words = words; earlier = known }; total = read.total }

  -- what they count is not too much
  few_counted : lines_tokens limit read.plain ≤ most_tokens
  few_counted =
      let counted =
      total_counted limit own Named Fault in_order (has_later limit) named_behind is_declared (IsOf version)
      lines (in_front limit version own) read.plain last read.lines.follows in
      let few = total_few limit own Named Fault in_order (has_later limit) named_behind is_declared (IsOf version)
      lines (in_front limit version own) read.plain last read.lines.follows (omega arith) in
      omega (arith, counted, few)

  -- none is deep
  low : (ps : List stated.Statement)
      → Each (IsOfLine limit own Named is_declared (IsOf version) lines) ps
      → Each (λ p. line_depth p ≤ most_open) ps
  low [] h = tt
  low (p ∷ ps) h =
      let o = h.0 in
      let line = seen_among (λ l. deepest 0 [] false l ≤ most_open) (text_lines text own read.tokens)
      (read_low text own read.tokens read.are_tokens) o.symbols o.line in
      let depth = expansion_shallow version own o.symbols o.statement p o.is o.expanded in
      (omega (arith, line, depth), low ps h.1)

  all_low : Each (λ p. line_depth p ≤ most_open) read.plain
  all_low =
      low read.plain
      (all_of_lines limit own Named Fault in_order (has_later limit) named_behind is_declared (IsOf version) lines
      (in_front limit version own) read.plain last read.lines.follows)

  module _ (sorts : List (Option Sort)) (names : Naming) where
    abbrev AreWritable : List Statement → Type 0
    AreWritable ss = Each (AreReadable limit sorts names) ss

    pub read_few : CountsSetsFromOne sorts → Each (FitsStatement limit) list → AreWritable list
        → Each (EndsInSet sorts) list → length (ended (map (canonical_line words sorts names) list)) ≤ most_tokens
    read_few named_set fits readable ends =
        let back = sym read.list_is in
        let counted =
        all_counted words limit sorts names named_set read.plain (subst (Each (FitsStatement limit)) back fits)
        (subst AreWritable back readable) (subst (Each (EndsInSet sorts)) back ends) in
        subst (λ (ss : List Statement). length (ended (map (canonical_line words sorts names) ss)) ≤ most_tokens)
        read.list_is
        (omega (arith, counted, few_counted))

    shallow : (ps : List stated.Statement) → Each (λ p. line_depth p ≤ most_open) ps
        → AreWritable (map (numbered words) ps)
        → Each (λ s. IsShallow 0 (canonical_line words sorts names s)) (map (numbered words) ps)
    shallow [] h r = tt
    shallow (p ∷ ps) h r = (numbered_shallow words limit sorts names p r.0 h.0, shallow ps h.1 r.1)

    pub read_shallow : AreWritable list → Each (λ s. IsShallow 0 (canonical_line words sorts names s)) list
    read_shallow readable =
        subst (Each (λ s. IsShallow 0 (canonical_line words sorts names s))) read.list_is
        (shallow read.plain all_low (subst AreWritable (sym read.list_is) readable))
