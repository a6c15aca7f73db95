-- One line of either version, as the reader comes by it.
use Rattle.std.proofs.Common.{◌≡◌, ℕ, ◌<◌, ◌≤◌, Bool, false, eqb, inl, inr, List, [], ◌∷◌, length, length-append, map, drop, Option, Some, None, refl, sym, ap, ◌∙◌, subst, arith, append-nil}
use Rattle.std.specs.Prelude.{is_some, Vec, Result, Ok, Err, MatchResult}
use Rattle.std.specs.declared.alloc.Global.{Global}
use Rattle.std.specs.List.{find}
use Rattle.std.proofs.lemmas.List.{drop_at}
use Rattle.rob_index.specs.Symbols.{Symbol}
use Rattle.rob_index.specs.Statements.{Name, Indexed, Tree}
use Rattle.rob_index.specs.Expansion.{expand}
use Rattle.rob_index.specs.Rules.{IndexFault, rule_of as index_rule}
use Rattle.rob_index.specs.Search.{named}
use Rattle.rob_index.specs.Reading.{Version, IsOf, LineFault, not_a_statement, index, later, first_fault as fault_on, behind as behind_line, later_first, either_first, BreaksLine}
use Rattle.rob_places.specs.Tests.{is_set}
use Rattle.rob_syntax.specs.declared.symbol.Symbol.{Symbol as Known}
use Rattle.rob_syntax.specs.declared.syntax.Statement.{Statement}
use Rattle.rob_syntax.specs.Known.{texts}
use Rattle.rob_syntax.specs.Numbered.{numbered}
use Rattle.rob_syntax.specs.SeenSymbols.{seen_line}
use Rattle.rob_rules.specs.declared.fault.Fault.{Fault}
use Rattle.rob_rules.specs.declared.lines.Reader.{Reader}
use Rattle.rob_rules.specs.declared.lines.Stop.{Stop}
use Rattle.rob_rules.specs.declared.lines.Stop.TheVariants as stop
use Rattle.rob_rules.specs.declared.scope.Scope.{Scope}
use Rattle.rob_rules.specs.Degrees.{sort_at}
use Rattle.rob_rules.specs.Faults.{in_order, rule_of}
use Rattle.rob_rules.specs.Names.{Named, named_behind, widened}
use Rattle.rob_rules.specs.Scopes.{Earlier, earlier_of}
use Rattle.rob_rules.specs.Sizes.{IsKept}
use Rattle.rob_rules.specs.Stages.{BreakRule, behind_all, declare_all, fault_behind, HasFaultStop, HasIndexStop, HasLineStop, HasNoStatement, IsAppended, IsBetween, IsExpanded, IsTaken, LeaveRoom, lowest_fault, named_of, ReadsOn, stage_of}
use Rattle.rob_rules.specs.Texts.{Stage, LinesFollow, SomeBreaks, has_later, is_declared}
use Rattle.rob_rules.proofs.Joining.WidenedLemmas.{IsOfWords}
use Rattle.rob_rules.proofs.Steps.LineStatements.{line_has_fault, stepped, lowest_is, stepped_is, line_among, all_kept, SaysSame, declared_same, declared_long, sorts_long}

-- a line that has a symbol
pub some_symbols : (symbols : List Known) → false ≡ eqb (length symbols) 0 → 0 < length symbols
some_symbols [] test = cc
some_symbols (x ∷ symbols) test = omega arith

pub seen_some : (symbols : List Known) → 0 < length symbols → seen_line symbols ≡ [] → ⊥
seen_some [] some same = omega (arith, some)
seen_some (x ∷ symbols) some same = cc

-- ---- the line
module _ (limit : ℕ) (own : List Name) (version : Version) where
  -- the fault that decides on a statement
  abbrev deciding : Stage limit own version → Indexed Tree → Option (LineFault Fault)
  deciding = fault_on limit own Named Fault in_order (has_later limit) named_behind is_declared (IsOf version)

  -- what is known behind it
  abbrev behind_one : Stage limit own version → Indexed Tree → Stage limit own version
  behind_one = behind_line limit own Named Fault in_order (has_later limit) named_behind is_declared (IsOf version)

  -- a fault of a plain statement, on the line
  abbrev on_line : Option Fault → Option (LineFault Fault)
  on_line = later_first limit own Named Fault in_order (has_later limit) named_behind is_declared (IsOf version)

  -- a fault of indices where there is one, else a later one
  abbrev before_later : Option IndexFault → Option (LineFault Fault) → Option (LineFault Fault)
  before_later = either_first limit own Named Fault in_order (has_later limit) named_behind is_declared (IsOf version)

  -- what is wrong with a line that isn't empty
  abbrev Bad : Stage limit own version → List Symbol → LineFault Fault → Type 0
  Bad = BreaksLine limit own Named Fault in_order (has_later limit) named_behind is_declared (IsOf version)

  follows_one : (symbols : List Symbol) (s : Indexed Tree) (e f : Stage limit own version) → (symbols ≡ [] → ⊥)
      → IsOf version symbols s → deciding e s ≡ None → behind_one e s ≡ f
      → LinesFollow limit own version e (symbols ∷ []) (expand own s) f
  follows_one [] s e f some is none ends = absurd (some refl)
  follows_one (x ∷ xs) s e f some is none ends = (s, [], is, none, sym (append-nil (expand own s)), (refl, ends))

  breaks_one : (symbols : List Symbol) (e : Stage limit own version) (fault : LineFault Fault) → (symbols ≡ [] → ⊥)
      → Bad e symbols fault → SomeBreaks limit own version e (symbols ∷ []) fault 1
  breaks_one [] e fault some bad = absurd (some refl)
  breaks_one (x ∷ xs) e fault some bad = inl (bad, refl)

  -- a line of which no statement is read
  pub no_statement_breaks : (symbols : List Symbol) (e : Stage limit own version) (rule : ℕ) → (symbols ≡ [] → ⊥)
      → rule ≡ 11 → ((s : Indexed Tree) → IsOf version symbols s → ⊥)
      → BreakRule limit own version e (symbols ∷ []) rule 1
  no_statement_breaks symbols e rule some is none =
      record {
        fault = not_a_statement;
        rule_is = sym is;
        breaks = breaks_one symbols e not_a_statement some (inl (refl, none));
      }

  pub no_statement_stops : (symbols : List Symbol) (e : Stage limit own version) (why : Stop) → (symbols ≡ [] → ⊥)
      → HasNoStatement version symbols why → HasLineStop limit own version e symbols why
  no_statement_stops symbols e (stop.Rule rule) some h = no_statement_breaks symbols e rule some h.0 h.1
  no_statement_stops symbols e stop.Memory some h = tt

  -- at the exit of a `?`
  pub stopped_by : {V : Type 0} (P : V → Type 0) (e : Stage limit own version) (symbols : List Symbol)
      (r : Result V Stop) (why found : Stop) → r ≡ Err why → why ≡ found
      → HasLineStop limit own version e symbols found
      → MatchResult r P (λ x. HasLineStop limit own version e symbols x)
  stopped_by P e symbols r why found is same cause =
      rw is (subst (λ (x : Stop). HasLineStop limit own version e symbols x) (sym same) cause)

  module _ (symbols : List Symbol) (s : Indexed Tree) (some : symbols ≡ [] → ⊥) (is : IsOf version symbols s)
      (old : Reader) where
    abbrev in_front : Stage limit own version
    in_front = stage_of limit own version old

    abbrev indices : Option IndexFault
    indices = named limit own (is_declared (named_of old)) old.total s

    abbrev found : Option Fault
    found = find (line_has_fault limit own version (named_of old) (named_of old) (expand own s)) in_order

    -- a rule of indices is broken
    pub index_breaks : (f : IndexFault) (rule : ℕ) → indices ≡ Some f → index_rule f ≡ rule
        → BreakRule limit own version in_front (symbols ∷ []) rule 1
    index_breaks f rule broken rule_is =
        let decides : deciding in_front s ≡ Some (index f) = λ i. before_later (broken i) (on_line found) in
        record {
          fault = index f;
          rule_is = rule_is;
          breaks = breaks_one symbols in_front (index f) some (inr (s, is, decides));
        }

    pub index_stops : (why : Stop) → HasIndexStop limit own s old why
        → HasLineStop limit own version in_front symbols why
    index_stops (stop.Rule rule) h = index_breaks h.0 rule h.1 h.2
    index_stops stop.Memory h = tt

    -- what it stands for is appended, or a rule of indices is broken
    pub line_appended : {V : Type 0} (r : Result V Stop) (new : Reader)
        → MatchResult r (λ _. IsExpanded limit own s old new) (λ why. HasIndexStop limit own s old why)
        → MatchResult r (λ _. IsAppended limit own version symbols old new)
        (λ why. HasLineStop limit own version in_front symbols why)
    line_appended (Ok v) new h = record { statement = s; is = is; expanded = h }
    line_appended (Err why) new h = index_stops why h

    module _ (mid : Reader) (between : IsBetween own old) (x : IsExpanded limit own s old mid) where
      abbrev words : List Name
      words = texts mid.words.keys

      abbrev plain : List Statement
      plain = map (numbered words) (expand own s)

      abbrev lowest : Option Fault
      lowest = lowest_fault limit (earlier_of mid.front) (earlier_of mid.scope) plain

      of_words : IsOfWords (named_of old)
      of_words = between.level.scope ∙ between.wide

      front_widened : earlier_of mid.front ≡ widened words (earlier_of old.scope)
      front_widened = x.between.front ∙ x.earlier_is

      lowest_moved : lowest
          ≡ lowest_fault limit (widened words (earlier_of old.scope)) (widened words (earlier_of old.scope)) plain
      lowest_moved = let f = front_widened in let e = x.earlier_is in (λ i. lowest_fault limit (f i) (e i) plain)

      lowest_found : lowest ≡ found
      lowest_found = lowest_moved ∙ lowest_is limit own version words (named_of old) (expand own s) of_words x.grows

      decided : (o : Option Fault) → lowest ≡ o → deciding in_front s ≡ on_line o
      decided o h =
          let f : found ≡ o = sym lowest_found ∙ h in
          let none = x.faultless in
          (λ i. before_later (none i) (on_line (f i)))

      -- a plain statement has a fault
      pub statement_breaks : (f : Fault) (rule : ℕ) → lowest ≡ Some f → rule ≡ rule_of f
          → BreakRule limit own version in_front (symbols ∷ []) rule 1
      statement_breaks f rule h rule_is = record {
        fault = later f;
        rule_is = sym rule_is;
        breaks = breaks_one symbols in_front (later f) some (inr (s, is, decided (Some f) h));
      }

      -- none has one, and all are taken into account
      module _ (none : lowest ≡ None) (scope front : Scope) (declared : Vec Bool Global)
          (scope_is : earlier_of scope ≡ behind_all (earlier_of mid.scope) plain)
          (front_is : earlier_of front ≡ behind_all (earlier_of mid.front) plain)
          (declared_is : declared.items ≡ declare_all (earlier_of mid.front) mid.declared.items plain) where
        abbrev last : Reader
        last = record mid { scope = scope; front = front; declared = declared }

        level_front : earlier_of front ≡ earlier_of scope
        level_front = front_is ∙ ap (λ (e : Earlier). behind_all e plain) x.between.front ∙ sym scope_is

        says_same : SaysSame mid.declared.items (earlier_of mid.front).sorts
        says_same =
            λ k. x.between.declared k ∙ ap (λ (e : Earlier). is_some (sort_at e.sorts k)) (sym x.between.front)

        declared_count : length declared.items ≡ length mid.declared.items
        declared_count = ap length declared_is ∙ declared_long plain (earlier_of mid.front) mid.declared.items

        scope_count : length scope.sorts.items ≡ length mid.declared.items
        scope_count =
            ap (λ (e : Earlier). length e.sorts) scope_is ∙ sorts_long plain (earlier_of mid.scope)
            ∙ x.between.level.scope

        front_count : length front.sorts.items ≡ length mid.declared.items
        front_count =
            ap (λ (e : Earlier). length e.sorts) front_is ∙ sorts_long plain (earlier_of mid.front)
            ∙ x.between.level.front

        behind_between : IsBetween own last
        behind_between = record {
          own_are = x.between.own_are;
          own_first = x.between.own_first;
          front = level_front;
          declared = λ k. ap (λ (t : List Bool). is_set t k) declared_is
              ∙ declared_same plain (earlier_of mid.front) mid.declared.items x.between.level.front says_same k
              ∙ ap (λ (e : Earlier). is_some (sort_at e.sorts k)) (sym front_is ∙ level_front);
          level = record { scope = scope_count ∙ sym declared_count; front = front_count ∙ sym declared_count };
          wide = declared_count ∙ x.between.wide;
          tokens = x.between.tokens;
          kept = subst (λ (e : Earlier). IsKept e.sizes) (sym scope_is)
              (all_kept limit (earlier_of mid.front) (earlier_of mid.scope) plain x.between.kept none);
        }

        known_is : stepped limit own version (named_of old) (expand own s)
            ≡ record { words = words; earlier = earlier_of scope }
        known_is =
            let e : behind_all (widened words (earlier_of old.scope)) plain ≡ earlier_of scope =
            ap (λ (d : Earlier). behind_all d plain) (sym x.earlier_is) ∙ sym scope_is in
            let known : Earlier → Named = λ d. record { words = words; earlier = d } in
            stepped_is limit own version words (named_of old) (expand own s) of_words x.grows ∙ ap known e

        behind_is_stage : behind_one in_front s ≡ stage_of limit own version last
        behind_is_stage =
            let k = known_is in let t = sym x.total_is in (λ i. record { known = k i; total = t i })

        pub line_reads : ReadsOn limit own version (symbols ∷ []) old last
        line_reads = record {
          more = expand own s;
          follows = follows_one symbols s in_front (stage_of limit own version last) some is (decided None none)
              behind_is_stage;
          appended = x.appended;
          grows = x.grows;
          among = line_among limit own version words (named_of old) (expand own s) of_words x.grows;
          between = behind_between;
        }

      -- ---- as the code has them: the plain statements stand behind those that were there
      module _ (count : ℕ) (count_is : count ≡ length old.list) where
        pub count_fits : count ≤ length mid.list
        count_fits = omega (arith, count_is, ap length x.appended, length-append old.list plain)

        more_are : drop count mid.list ≡ plain
        more_are = ap (drop count) x.appended ∙ drop_at old.list plain count (sym count_is)

        lowest_same : lowest ≡ fault_behind limit count mid
        lowest_same = ap (lowest_fault limit (earlier_of mid.front) (earlier_of mid.scope)) (sym more_are)

        pub room_behind : LeaveRoom mid.scope.sizes (drop count mid.list)
        room_behind = subst (λ (l : List Statement). LeaveRoom mid.scope.sizes l) (sym more_are) x.room

        -- a fault is found
        pub fault_stops : (why : Stop) → HasFaultStop limit count mid why
            → HasLineStop limit own version in_front symbols why
        fault_stops (stop.Rule rule) h = statement_breaks h.0 rule (lowest_same ∙ h.1) (sym h.2)
        fault_stops stop.Memory h = tt

        -- none is
        pub taken_reads : (new : Reader) → IsTaken limit count mid new
            → ReadsOn limit own version (symbols ∷ []) old new
        taken_reads new t =
            let written : Reader = record mid { scope = new.scope; front = new.front; declared = new.declared } in
            let l = t.list in
            let o = t.own in
            let w = t.words in
            let n = t.total in
            let same : new ≡ written = λ i. record {
              list = l i;
              own = o i;
              words = w i;
              scope = new.scope;
              front = new.front;
              declared = new.declared;
              total = n i;
            } in
            subst (λ (r : Reader). ReadsOn limit own version (symbols ∷ []) old r) (sym same)
            (line_reads (lowest_same ∙ t.faultless) new.scope new.front new.declared
            (t.scope ∙ ap (behind_all (earlier_of mid.scope)) more_are)
            (t.front ∙ ap (behind_all (earlier_of mid.front)) more_are)
            (t.declared ∙ ap (declare_all (earlier_of mid.front) mid.declared.items) more_are))

        pub line_judged : {V : Type 0} (r : Result V Stop) (new : Reader)
            → MatchResult r (λ _. IsTaken limit count mid new) (λ why. HasFaultStop limit count mid why)
            → MatchResult r (λ _. ReadsOn limit own version (symbols ∷ []) old new)
            (λ why. HasLineStop limit own version in_front symbols why)
        line_judged (Ok v) new h = taken_reads new h
        line_judged (Err why) new h = fault_stops why h
