-- How far the reader of a text of either version has come.
use Rattle.std.specs.Prelude.{◌≡◌, ℕ, ◌+◌, ◌-◌, nat_lt, ◌≤◌, ◌||◌, Bool, true, false, List, [], ◌∷◌, ◌++◌, length, map, drop, fold, set, replicate, Option, Some, None, if◌then◌else◌}
use Rattle.std.specs.List.{find}
use Rattle.rob_meaning.specs.Places.{Each}
use Rattle.rob_index.specs.Statements as stated
use Rattle.rob_index.specs.Statements.{Name}
use Rattle.rob_index.specs.Symbols.{Symbol}
use Rattle.rob_index.specs.Counting.{lines_tokens}
use Rattle.rob_index.specs.Expansion.{expand}
use Rattle.rob_index.specs.Rules.{IndexFault, most_tokens, rule_of as index_rule}
use Rattle.rob_index.specs.Search.{named}
use Rattle.rob_index.specs.Reading.{IsOf, LineFault, line_rule, Version}
use Rattle.rob_places.specs.Tests.{is_set}
use Rattle.rob_syntax.specs.declared.syntax.Statement.{Statement}
use Rattle.rob_syntax.specs.Known.{texts}
use Rattle.rob_syntax.specs.Numbered.{numbered}
use Rattle.rob_rules.specs.declared.error.ModelErr.{ModelErr}
use Rattle.rob_rules.specs.declared.error.ModelErr.TheVariants as model
use Rattle.rob_rules.specs.declared.fault.Fault.{Fault}
use Rattle.rob_rules.specs.declared.size.Sizes.{Sizes}
use Rattle.rob_rules.specs.declared.sort.Sort.{Sort}
use Rattle.rob_rules.specs.declared.lines.Reader.{Reader}
use Rattle.rob_rules.specs.declared.lines.Stop.{Stop}
use Rattle.rob_rules.specs.declared.lines.Stop.TheVariants as stop
use Rattle.rob_rules.specs.Faults.{has_fault, in_order, rule_of}
use Rattle.rob_rules.specs.Growing.{AreAmong}
use Rattle.rob_rules.specs.Names.{Named, grown, names_of, widened}
use Rattle.rob_rules.specs.Scopes.{Earlier, earlier_of, start, behind, declared_by}
use Rattle.rob_rules.specs.Sizes.{counted, IsKept, IsSmall}
use Rattle.rob_rules.specs.Texts.{Stage, LinesFollow, SomeBreaks, is_declared}

-- ---- the plain statements of one line
-- some statement of a line has the fault, given what is known in front of the line, and in front of the statements
abbrev pub some_has : (limit : ℕ) (before now : Earlier) → List Statement → Fault → Bool
some_has limit before now [] fault = false
some_has limit before now (s ∷ list) fault =
    has_fault limit before now s fault || some_has limit before (behind now s) list fault

-- the lowest fault of them
abbrev pub lowest_fault : (limit : ℕ) (before now : Earlier) → List Statement → Option Fault
lowest_fault limit before now list = find (some_has limit before now list) in_order

-- the lower of two faults, if there is one
abbrev pub lower_of : Option Fault → Option Fault → Option Fault
lower_of None other = other
lower_of (Some f) None = Some f
lower_of (Some f) (Some g) = if nat_lt (rule_of g) (rule_of f) then Some g else Some f

-- what is known behind them
abbrev pub behind_all : Earlier → List Statement → Earlier
behind_all e list = fold behind e list

-- the counts leave room for one more, behind each of them
abbrev pub LeaveRoom : Sizes → List Statement → Type 0
LeaveRoom sizes [] = IsSmall sizes
LeaveRoom sizes (s ∷ list) = IsSmall sizes × LeaveRoom (counted sizes s) list

-- the table of declared names behind a declaration
abbrev pub mark_declared : List Bool → Option (ℕ × Sort) → List Bool
mark_declared table None = table
mark_declared table (Some d) = set table d.0 true

-- the same behind them, by what is known in front of them
abbrev pub declare_all : Earlier → List Bool → List Statement → List Bool
declare_all e table [] = table
declare_all e table (s ∷ list) = declare_all (behind e s) (mark_declared table (declared_by e.sizes s)) list

-- a list, and the value behind it until there are so many items
abbrev pub padded : {A : Type 0} → ℕ → A → List A → List A
padded count x xs = xs ++ replicate (count - length xs) x

-- ---- what the reader keeps
-- what is known of the names, by the words that there are
abbrev pub named_of : Reader → Named
named_of r = record { words = texts r.words.keys; earlier = earlier_of r.scope }

module _ (limit : ℕ) (own : List Name) (version : Version) where
  -- what is known in front of the next line, and the canonical tokens of the lines before it
  abbrev pub stage_of : Reader → Stage limit own version
  stage_of r = record { known = named_of r; total = r.total }

-- what is kept of the words is kept of as many
pub record IsLevel (r : Reader) : Type 0 where
  pub scope : length r.scope.sorts.items ≡ length r.declared.items
  pub front : length r.front.sorts.items ≡ length r.declared.items

-- what the reader keeps between two lines of a text with these words
pub record IsBetween (own : List Name) (r : Reader) : Type 0 where
  pub own_are : texts r.own.keys ≡ own
  pub own_first : (more : List Name) × (texts r.words.keys ≡ own ++ more)
  pub front : earlier_of r.front ≡ earlier_of r.scope
  pub declared : (k : ℕ) → is_set r.declared.items k ≡ is_declared (named_of r) k
  pub level : IsLevel r
  pub wide : length r.declared.items ≡ length (texts r.words.keys)
  pub tokens : r.total ≤ most_tokens
  pub kept : IsKept r.scope.sizes

-- nothing is read yet of a text with these words
pub record StartsAt (own : List Name) (r : Reader) : Type 0 where
  pub between : IsBetween own r
  pub words_are : texts r.words.keys ≡ own
  pub earlier_is : earlier_of r.scope ≡ start (length own)
  pub total : r.total ≡ 0
  pub list_is : r.list ≡ []

-- ---- one line
-- why symbols are no statement of a version; want of memory has no cause
abbrev pub HasNoStatement : Version → List Symbol → Stop → Type 0
HasNoStatement version symbols (stop.Rule rule) =
    (rule ≡ 11) × ((s : stated.Indexed stated.Tree) → IsOf version symbols s → ⊥)
HasNoStatement version symbols stop.Memory = Unit {0}

-- what is known of words that have come, and nothing else is changed
pub record IsWidened (old new : Reader) : Type 0 where
  pub list : new.list ≡ old.list
  pub own : new.own ≡ old.own
  pub words : new.words ≡ old.words
  pub total : new.total ≡ old.total
  pub scope : earlier_of new.scope ≡ widened (texts old.words.keys) (earlier_of old.scope)
  pub front : earlier_of new.front ≡ widened (texts old.words.keys) (earlier_of old.front)
  pub declared : new.declared.items ≡ padded (length (texts old.words.keys)) false old.declared.items

module _ (limit : ℕ) (own : List Name) (s : stated.Indexed stated.Tree) where
  -- the rule of indices that a line breaks behind what is read
  abbrev pub named_behind_lines : Reader → Option IndexFault
  named_behind_lines r = named limit own (is_declared (named_of r)) r.total s

  -- the line breaks none, and what it stands for is appended, but not yet taken into account
  pub record IsExpanded (old new : Reader) : Type 0 where
    pub faultless : named_behind_lines old ≡ None
    pub appended : new.list ≡ old.list ++ map (numbered (texts new.words.keys)) (expand own s)
    pub grows : texts new.words.keys ≡ fold grown (texts old.words.keys) (expand own s)
    pub total_is : new.total ≡ old.total + lines_tokens limit (expand own s)
    pub earlier_is : earlier_of new.scope ≡ widened (texts new.words.keys) (earlier_of old.scope)
    pub room : LeaveRoom new.scope.sizes (map (numbered (texts new.words.keys)) (expand own s))
    pub between : IsBetween own new

  -- it breaks this one; want of memory has no cause
  abbrev pub HasIndexStop : Reader → Stop → Type 0
  HasIndexStop old (stop.Rule rule) = (f : IndexFault) × (named_behind_lines old ≡ Some f) × (index_rule f ≡ rule)
  HasIndexStop old stop.Memory = Unit {0}

-- what a line of a version stands for is appended
pub record IsAppended (limit : ℕ) (own : List Name) (version : Version) (symbols : List Symbol) (old new : Reader)
    : Type 0 where
  pub statement : stated.Indexed stated.Tree
  pub is : IsOf version symbols statement
  pub expanded : IsExpanded limit own statement old new

module _ (limit count : ℕ) where
  -- the lowest fault of the statements behind the first ones, which are so many
  abbrev pub fault_behind : Reader → Option Fault
  fault_behind r = lowest_fault limit (earlier_of r.front) (earlier_of r.scope) (drop count r.list)

  -- they have none and are taken into account, and nothing else is changed
  pub record IsTaken (old new : Reader) : Type 0 where
    pub faultless : fault_behind old ≡ None
    pub list : new.list ≡ old.list
    pub own : new.own ≡ old.own
    pub words : new.words ≡ old.words
    pub total : new.total ≡ old.total
    pub scope : earlier_of new.scope ≡ behind_all (earlier_of old.scope) (drop count old.list)
    pub front : earlier_of new.front ≡ behind_all (earlier_of old.front) (drop count old.list)
    pub declared : new.declared.items ≡ declare_all (earlier_of old.front) old.declared.items (drop count old.list)

  -- they have this one; want of memory has no cause
  abbrev pub HasFaultStop : Reader → Stop → Type 0
  HasFaultStop old (stop.Rule rule) = (f : Fault) × (fault_behind old ≡ Some f) × (rule_of f ≡ rule)
  HasFaultStop old stop.Memory = Unit {0}

-- ---- lines
module _ (limit : ℕ) (own : List Name) (version : Version) where
  -- some lines are read, their plain statements appended, and their names behind the words
  pub record ReadsOn (lines : List (List Symbol)) (old new : Reader) : Type 0 where
    pub more : List stated.Statement
    pub follows : LinesFollow limit own version (stage_of limit own version old) lines more
        (stage_of limit own version new)
    pub appended : new.list ≡ old.list ++ map (numbered (texts new.words.keys)) more
    pub grows : texts new.words.keys ≡ fold grown (texts old.words.keys) more
    pub among : Each (λ p. AreAmong (texts new.words.keys) (names_of p)) more
    pub between : IsBetween own new

  -- these lines break this rule on that line
  pub record BreakRule (e : Stage limit own version) (lines : List (List Symbol)) (rule line : ℕ) : Type 0 where
    pub fault : LineFault Fault
    pub rule_is : line_rule rule_of fault ≡ rule
    pub breaks : SomeBreaks limit own version e lines fault line

  -- why a line isn't read; want of memory has no cause
  abbrev pub HasLineStop : Stage limit own version → List Symbol → Stop → Type 0
  HasLineStop e symbols (stop.Rule rule) = BreakRule e (symbols ∷ []) rule 1
  HasLineStop e symbols stop.Memory = Unit {0}

  -- why some lines aren't read; want of memory has no cause
  abbrev pub HaveStop : Stage limit own version → List (List Symbol) → ModelErr → Type 0
  HaveStop e lines (model.Rule rule line) = BreakRule e lines rule line
  HaveStop e lines model.Memory = Unit {0}
