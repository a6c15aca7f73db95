-- Lines of version 1 that are statements one behind another read as these by rob_index' reading of lines.
use Rattle.std.proofs.Common.{◌≡◌, ◌≤◌, ◌+◌, ℕ, Bool, false, List, [], ◌∷◌, ◌++◌, length, map, refl, sym, ap, ◌∙◌, subst, arith, append-nil}
use Rattle.std.specs.Prelude.{◌-◌, ◌||◌, fold, replicate, Option, None, if◌then◌else◌}
use Rattle.std.specs.List.{find}
use Rattle.rob_index.proofs.Names.LineNames.{statement_refs}
use Rattle.rob_index.proofs.LinesRead.ListLemmas.{or_false}
use Rattle.rob_index.proofs.LinesRead.PlainFaults.{is_statement, plain_faultless}
use Rattle.rob_index.proofs.Expanding.PlainLemmas.{line_itself}
use Rattle.rob_index.specs.Counting.{line_tokens, lines_tokens}
use Rattle.rob_index.specs.Expansion.{expand, word_at}
use Rattle.rob_index.specs.PlainLines.{itself_line}
use Rattle.rob_index.specs.Reading as lines
use Rattle.rob_index.specs.Reading.{one, IsOf, State}
use Rattle.rob_index.specs.Refs.{IfName}
use Rattle.rob_index.specs.Rules.{IndexFault, longest_name, most_tokens}
use Rattle.rob_index.specs.Statements as stated
use Rattle.rob_index.specs.Statements.{Indexed, Tree}
use Rattle.rob_index.specs.Symbols as is
use Rattle.rob_meaning.specs.Named.{AreDistinct}
use Rattle.rob_meaning.specs.Places.{Each}
use Rattle.rob_rules.proofs.Joining.WidenedLemmas.{declare_length}
use Rattle.rob_parse.proofs.Chains.NameLists.{of_names}
use Rattle.rob_parse.proofs.Names.NamedLemmas.{IsSound}
use Rattle.rob_parse.proofs.Names.WordSetLemmas.{In, in_place, number_found, one_number}
use Rattle.rob_parse.specs.Written.{word_of}
use Rattle.rob_round_trip.proofs.Indexed.PlainLines.{plain_statement}
use Rattle.rob_round_trip.proofs.Indexed.PlainNames.{line_names}
use Rattle.rob_round_trip.proofs.Lengths.TokenPlaces.{cost}
use Rattle.rob_round_trip.specs.Shown.{IsFoundAgain}
use Rattle.rob_rules.specs.Chains.{IsNumber}
use Rattle.rob_rules.specs.Faults.{first_fault, has_fault, in_order}
use Rattle.rob_rules.specs.Names.{Named, grown, named_behind, names_of, widened}
use Rattle.rob_rules.specs.Reading.{Follows}
use Rattle.rob_rules.specs.Scopes.{Earlier, behind, declared_by}
use Rattle.rob_rules.specs.Texts.{has_later, is_declared}
use Rattle.rob_rules.specs.declared.fault.Fault.{Fault}
use Rattle.rob_syntax.specs.Numbered.{numbered}
use Rattle.rob_syntax.specs.SeenSymbols.{seen_line}
use Rattle.rob_syntax.specs.Statements.{IsStatement}
use Rattle.rob_syntax.specs.Symbols.{add_word, number_of}
use Rattle.rob_syntax.specs.declared.symbol.Symbol.{Symbol}
use Rattle.rob_syntax.specs.declared.symbol.Symbol.TheVariants.{Name, Digits, Sign, Reserved}
use Rattle.rob_syntax.specs.declared.syntax.Statement.{Statement}

module _ (words : List (List ℕ)) where
  -- each name on the line is that of a word that may be one
  abbrev pub AreSound : List Symbol → Type 0
  AreSound symbols = Each (IsSound words) symbols

  -- what holds of the numbers of such words holds of the line's names
  seen_names : (P : ℕ → Type 0) → ((k : ℕ) → IsNumber words k → P k) → (xs : List Symbol) → AreSound xs
      → Each (IfName P) (seen_line xs)
  seen_names P to [] h = tt
  seen_names P to (Name k ∷ xs) h = (to k h.0, seen_names P to xs h.1)
  seen_names P to (Digits n ∷ xs) h = (tt, seen_names P to xs h.1)
  seen_names P to (Sign m ∷ xs) h = (tt, seen_names P to xs h.1)
  seen_names P to (Reserved w ∷ xs) h = (tt, seen_names P to xs h.1)

  -- names that are words bring no words
  nothing_grown : (ns : List stated.Name) → Each (In words) ns → fold add_word words ns ≡ words
  nothing_grown [] h = refl
  nothing_grown (n ∷ ns) h =
      ap (λ (b : Bool). fold add_word (if b then words else words ++ n ∷ []) ns) h.0 ∙ nothing_grown ns h.1

  as_wide : (e : Earlier) → length e.sorts ≡ length words → widened words e ≡ e
  as_wide e long =
      let none : length words - length e.sorts ≡ 0 = omega (arith, long) in
      let sorts = ap (λ (n : ℕ). e.sorts ++ replicate n None) none ∙ append-nil e.sorts in
      λ i. record { sorts = sorts i; sizes = e.sizes; goal = e.goal }

  -- a word is found again, where all words are different
  module _ (distinct : AreDistinct words) where
    found_again : (x : Symbol) → IsSound words x → IsFoundAgain words x
    found_again (Name k) h =
        let n = number_found words (word_of words k) (in_place words k h.0) in
        one_number words (number_of words (word_of words k)) k distinct n.0 h.0 n.1
    found_again (Digits n) h = tt
    found_again (Sign m) h = tt
    found_again (Reserved w) h = tt

    pub all_found : (xs : List Symbol) → AreSound xs → Each (IsFoundAgain words) xs
    all_found [] h = tt
    all_found (x ∷ xs) h = (found_again x h.0, all_found xs h.1)

module _ (limit : ℕ) (words : List (List ℕ)) where
  -- what is known in front of a line, and the canonical tokens of those before
  abbrev pub At : Type 0
  At = State limit words Named Fault in_order (has_later limit) named_behind is_declared (IsOf one)

  abbrev pub known_of : Earlier → Named
  known_of e = record { words = words; earlier = e }

  abbrev pub at_of : Earlier → ℕ → At
  at_of e total = record { known = known_of e; total = total }

  -- rob_index' lines read so
  abbrev pub AreRead : At → List (List is.Symbol) → List stated.Statement → At → Type 0
  AreRead = lines.Follows limit words Named Fault in_order (has_later limit) named_behind is_declared (IsOf one)

  abbrev later_on : Named → Named → List stated.Statement → Fault → Bool
  later_on = lines.line_has limit words Named Fault in_order (has_later limit) named_behind is_declared (IsOf one)

  abbrev steps_on : Named → List stated.Statement → Named
  steps_on = lines.steps limit words Named Fault in_order (has_later limit) named_behind is_declared (IsOf one)

  abbrev fault_of : At → Indexed Tree → Option (lines.LineFault Fault)
  fault_of = lines.first_fault limit words Named Fault in_order (has_later limit) named_behind is_declared (IsOf one)

  abbrev either : Option IndexFault → Option (lines.LineFault Fault) → Option (lines.LineFault Fault)
  either = lines.either_first limit words Named Fault in_order (has_later limit) named_behind is_declared (IsOf one)

  abbrev later : Option Fault → Option (lines.LineFault Fault)
  later = lines.later_first limit words Named Fault in_order (has_later limit) named_behind is_declared (IsOf one)

  abbrev at_behind : At → Indexed Tree → At
  at_behind = lines.behind limit words Named Fault in_order (has_later limit) named_behind is_declared (IsOf one)

  -- behind plain statements of a line
  abbrev passed : Earlier → ℕ → List stated.Statement → At
  passed e total l = record { known = steps_on (known_of e) l; total = total + lines_tokens limit l }

  -- behind one whose names are words
  one_passed : (e : Earlier) (total : ℕ) (q : stated.Statement) (s : Statement) → grown words q ≡ words
      → widened words e ≡ e → numbered words q ≡ s
      → passed e total (q ∷ []) ≡ at_of (behind e s) (total + line_tokens limit q)
  one_passed e total q s grows wide is =
      let count : total + lines_tokens limit (q ∷ []) ≡ total + line_tokens limit q = omega arith in
      (λ i. record {
        known = record { words = grows i; earlier = behind (widened (grows i) e) (numbered (grows i) q) };
        total = total + lines_tokens limit (q ∷ []);
      })
      ∙ (λ i. record { known = record { words = words; earlier = behind (wide i) (is i) }; total = count i })

  -- the line is the statement, by rob_index' reading too
  record LineReads (e : Earlier) (total : ℕ) (symbols : List Symbol) (s : Statement) : Type 0 where
    tree : Indexed Tree
    is_of : IsOf one (seen_line symbols) tree
    plain : stated.Statement
    expands : expand words tree ≡ plain ∷ []
    no_fault : fault_of (at_of e total) tree ≡ None
    behind_is : at_behind (at_of e total) tree ≡ at_of (behind e s) (total + line_tokens limit plain)
    few : line_tokens limit plain ≤ length symbols + 1
    numbered_is : numbered words plain ≡ s

  line_reads : AreDistinct words → (e : Earlier) (total : ℕ) (symbols : List Symbol) (s : Statement)
      → length e.sorts ≡ length words → AreSound words symbols → IsStatement symbols s
      → first_fault limit e e s ≡ None → total + (length symbols + 1) ≤ most_tokens → LineReads e total symbols s
  line_reads distinct e total symbols s long sound is fine few =
      let p = plain_statement words symbols s is (all_found words distinct symbols sound) in
      let t = p.tree in
      let q = itself_line words t in
      let inside = line_names (In words) words t
      (statement_refs (λ k. In words (word_at words k)) one (seen_line symbols) t p.is_of
      (seen_names words (λ k. In words (word_at words k)) (λ k n. in_place words k n.0) symbols sound)) in
      let short = line_names (λ n. length n ≤ longest_name) words t
      (statement_refs (λ k. length (word_at words k) ≤ longest_name) one (seen_line symbols) t p.is_of
      (seen_names words (λ k. length (word_at words k) ≤ longest_name) (λ k n. n.1.1) symbols sound)) in
      let grows : grown words q ≡ words = nothing_grown words (names_of q) (of_names (In words) q inside) in
      let single : expand words t ≡ q ∷ [] = line_itself words t p.is_of.1 in
      let tokens = p.few limit in
      let indices =
      plain_faultless limit words (is_declared (known_of e)) total t p.is_of.1 (omega (arith, few, tokens))
      (is_statement q short p.has) in
      let own : numbered (grown words q) q ≡ s = ap (λ (ws : List (List ℕ)). numbered ws q) grows ∙ p.numbered_is in
      let same : (g : Fault) → later_on (known_of e) (known_of e) (expand words t) g ≡ has_fault limit e e s g =
      λ g. ap (λ (l : List stated.Statement). later_on (known_of e) (known_of e) l g) single
      ∙ ap (λ (r : Statement). has_fault limit e e r g || false) own ∙ or_false (has_fault limit e e s g) in
      let wide = as_wide words e long in
      record {
        tree = t;
        is_of = p.is_of;
        plain = q;
        expands = single;
        no_fault = (λ i. either (indices i) (later (find (λ g. same g i) in_order))) ∙ ap later fine;
        behind_is = ap (passed e total) single ∙ one_passed e total q s grows wide p.numbered_is;
        few = tokens;
        numbered_is = p.numbered_is;
      }

  -- the lines are the statements, by rob_index' reading too
  pub record LinesFollow (e : Earlier) (total : ℕ) (symbols : List (List Symbol)) (list : List Statement) (f : Earlier)
      : Type 0 where
    pub plain : List stated.Statement
    pub last : ℕ
    pub reads : AreRead (at_of e total) (map seen_line symbols) plain (at_of f last)
    pub numbered_is : map (numbered words) plain ≡ list

  pub lines_follow : AreDistinct words → (e : Earlier) (total : ℕ) (symbols : List (List Symbol))
      (list : List Statement) (f : Earlier) → length e.sorts ≡ length words → Each (AreSound words) symbols
      → total + cost symbols ≤ most_tokens → Follows limit e symbols list f → LinesFollow e total symbols list f
  lines_follow distinct e total [] [] f long sound few h = record {
    plain = [];
    last = total;
    reads = (refl, ap (λ (x : Earlier). at_of x total) h);
    numbered_is = refl;
  }
  lines_follow distinct e total [] (s ∷ list) f long sound few h = absurd h
  lines_follow distinct e total ([] ∷ symbols) list f long sound few h =
      let r = lines_follow distinct e total symbols list f long sound.1 (omega (arith, few)) h in
      record { plain = r.plain; last = r.last; reads = r.reads; numbered_is = r.numbered_is }
  lines_follow distinct e total ((x ∷ xs) ∷ symbols) [] f long sound few h = absurd h
  lines_follow distinct e total ((x ∷ xs) ∷ symbols) (s ∷ list) f long sound few h =
      let some : total + ((length (x ∷ xs) + 1) + cost symbols) ≤ most_tokens = few in
      let l = line_reads distinct e total (x ∷ xs) s long sound.0 h.0 h.1 (omega (arith, some)) in
      let r = lines_follow distinct (behind e s) (total + line_tokens limit l.plain) symbols list f
      (declare_length e.sorts (declared_by e.sizes s) ∙ long) sound.1 (omega (arith, some, l.few)) h.2 in
      record {
        plain = l.plain ∷ r.plain;
        last = r.last;
        reads = (
          l.tree,
          r.plain,
          l.is_of,
          l.no_fault,
          ap (λ (ys : List stated.Statement). ys ++ r.plain) (sym l.expands),
          subst (λ (at : At). AreRead at (map seen_line symbols) r.plain (at_of f r.last)) (sym l.behind_is) r.reads,
        );
        numbered_is = λ i. l.numbered_is i ∷ r.numbered_is i;
      }
