-- Which text of either version reads as which statements, and which rule it breaks at which line where it doesn't:
-- rob_index' reading of lines, with the rules of statements as they are judged here.
use Rattle.std.specs.Prelude.{◌≡◌, ◌⊎◌, ℕ, Bool, List, length, map, is_some}
use Rattle.rob_lex.specs.declared.token.Token.{Token}
use Rattle.rob_lex.specs.Offences.{AreTokens, Breaks as BreaksTokens}
use Rattle.rob_index.specs.Statements as stated
use Rattle.rob_index.specs.Statements.{Name}
use Rattle.rob_index.specs.Symbols.{Symbol}
use Rattle.rob_index.specs.Reading.{IsOf, LineFault, State, Follows, BreaksAt, ReadsLines, BreaksLines, line_rule, Version}
use Rattle.rob_syntax.specs.declared.syntax.Statement.{Statement}
use Rattle.rob_syntax.specs.Symbols.{words_of}
use Rattle.rob_syntax.specs.Versions.{text_version, text_lines}
use Rattle.rob_syntax.specs.Numbered.{numbered}
use Rattle.rob_syntax.specs.SeenSymbols.{seen_line}
use Rattle.rob_rules.specs.declared.fault.Fault.{Fault}
use Rattle.rob_rules.specs.declared.error.ModelErr.{ModelErr}
use Rattle.rob_rules.specs.declared.error.ModelErr.TheVariants.{Rule, Memory}
use Rattle.rob_rules.specs.Degrees.{sort_at}
use Rattle.rob_rules.specs.Scopes.{Earlier, start}
use Rattle.rob_rules.specs.Faults.{has_fault, in_order, rule_of}
use Rattle.rob_rules.specs.Names.{Named, grown, named_behind}

-- a name, by the number of its word, is declared on an earlier line
abbrev pub is_declared : Named → ℕ → Bool
is_declared k word = is_some (sort_at k.earlier.sorts word)

-- a goal stands on an earlier line
abbrev pub has_goal : Named → Bool
has_goal k = k.earlier.goal

module _ (limit : ℕ) where
  -- a rule of statements is broken, given what lines before say, and what is known in front of the statement
  abbrev pub has_later : (before now : Named) → stated.Statement → Fault → Bool
  has_later before now s fault = has_fault limit before.earlier now.earlier (numbered (grown now.words s) s) fault

  module _ (words : List Name) (version : Version) where
    -- what is known in front of a line, and the canonical tokens of the lines before it
    abbrev pub Stage : Type 0
    Stage = State limit words Named Fault in_order has_later named_behind is_declared (IsOf version)

    -- each line is empty or a statement without a fault, and these are the plain statements that they stand for
    abbrev pub LinesFollow : Stage → List (List Symbol) → List stated.Statement → Stage → Type 0
    LinesFollow = Follows limit words Named Fault in_order has_later named_behind is_declared (IsOf version)

    -- the first bad line, counted from 1, and what is wrong with it
    abbrev pub SomeBreaks : Stage → List (List Symbol) → LineFault Fault → ℕ → Type 0
    SomeBreaks = BreaksAt limit words Named Fault in_order has_later named_behind is_declared (IsOf version)

  -- what is known in front of the first line of a text with these words, of this version
  abbrev pub in_front : (version : Version) (words : List Name)
      → State limit words Named Fault in_order has_later named_behind is_declared (IsOf version)
  in_front version words =
      record { known = record { words = words; earlier = start (length words) }; total = 0 }

  -- the lines of a text with these words and tokens read as these plain statements
  abbrev pub LinesRead : (text : List ℕ) (words : List Name) (tokens : List Token) → List stated.Statement
      → (last : Named) → (total : ℕ) → Type 0
  LinesRead text words tokens plain last total =
      ReadsLines limit words Named Fault in_order has_later named_behind is_declared (IsOf (text_version text tokens))
      has_goal (in_front (text_version text tokens) words) (map seen_line (text_lines text words tokens)) plain
      (record { known = last; total = total })

  -- they break this rule on that line
  abbrev pub LinesBreak : (text : List ℕ) (words : List Name) (tokens : List Token) → LineFault Fault → ℕ → Type 0
  LinesBreak text words tokens fault line =
      BreaksLines limit words Named Fault in_order has_later named_behind is_declared (IsOf (text_version text tokens))
      has_goal (in_front (text_version text tokens) words) (map seen_line (text_lines text words tokens)) fault line

  -- the text reads as these statements, whose names are numbers of these words, and this is known behind them
  pub record Reads (text : List ℕ) (words : List Name) (list : List Statement) (known : Earlier) : Type 0 where
    pub tokens : List Token
    pub are_tokens : AreTokens text tokens
    pub plain : List stated.Statement
    pub total : ℕ
    pub lines : LinesRead text (words_of text tokens) tokens plain (record { words = words; earlier = known }) total
    pub list_is : map (numbered words) plain ≡ list

  -- the text breaks a rule on a line: first the rules of tokens, then those of lines
  abbrev pub Breaks : List ℕ → ℕ → ℕ → Type 0
  Breaks text rule line =
      BreaksTokens text rule line
      ⊎ ((tokens : List Token) × (fault : LineFault Fault) × AreTokens text tokens
      × LinesBreak text (words_of text tokens) tokens fault line × (line_rule rule_of fault ≡ rule))

  -- a refusal's cause; want of memory has none
  abbrev pub HasTextCause : List ℕ → ModelErr → Type 0
  HasTextCause text (Rule rule line) = Breaks text rule line
  HasTextCause text Memory = Unit {0}

  -- the text reads as statements, or breaks a rule
  abbrev pub HasReading : List ℕ → Type 0
  HasReading text =
      ((words : List Name) × (list : List Statement) × (known : Earlier) × Reads text words list known)
      ⊎ ((rule : ℕ) × (line : ℕ) × Breaks text rule line)
