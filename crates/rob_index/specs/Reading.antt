-- Which lines read as which plain statements, and which rule they break at which line where they don't, for both
-- versions. The rules 12 to 23 of plain statements, what is known in front of a line, and what a line's statement is,
-- come from outside: they are those of a text of version 1.
use Rattle.std.specs.Prelude.{◌≡◌, ℕ, suc, ◌+◌, ◌||◌, ◌⊎◌, Bool, true, false, List, [], ◌∷◌, ◌++◌, length, codes, Option, Some, None, if◌then◌else◌}
use Rattle.std.specs.Str.{bytes_eq}
use Rattle.std.specs.List.{find}
use Rattle.rob_index.specs.Symbols.{Symbol}
use Rattle.rob_index.specs.Statements.{Name, Statement, Tree, Indexed}
use Rattle.rob_index.specs.Expansion.{expand}
use Rattle.rob_index.specs.Lines.{IsStatement}
use Rattle.rob_index.specs.PlainLines.{IsPlainLine}
use Rattle.rob_index.specs.Counting.{lines_tokens}
use Rattle.rob_index.specs.Rules.{IndexFault, rule_of}
use Rattle.rob_index.specs.Search.{named}

-- the versions of a text
pub data Version : Type 0 where
  one : Version
  two : Version

-- ---- the version, by the bytes of the tokens of each line
abbrev pub is_version_line : List Name → Bool
is_version_line (a ∷ b ∷ []) = if bytes_eq a (codes "model") then bytes_eq b (codes "2") else false
is_version_line _ = false

-- the first line with a token decides
abbrev pub version_of : List (List Name) → Version
version_of [] = one
version_of ([] ∷ lines) = version_of lines
version_of ((t ∷ ts) ∷ lines) = if is_version_line (t ∷ ts) then two else one

-- the lines, with none in place of the one that names the version
abbrev pub body_of : List (List Name) → List (List Name)
body_of [] = []
body_of ([] ∷ lines) = [] ∷ body_of lines
body_of ((t ∷ ts) ∷ lines) = (if is_version_line (t ∷ ts) then [] else t ∷ ts) ∷ lines

-- the symbols are this statement of that version: in version 1 no name has an index and nothing has a range
abbrev pub IsOf : Version → List Symbol → Indexed Tree → Type 0
IsOf one symbols s = IsStatement symbols s × IsPlainLine s
IsOf two symbols s = IsStatement symbols s

-- what may be wrong with a line; Later is a fault of a plain statement
pub data LineFault (Later : Type 0) : Type 0 where
  not_a_statement : LineFault Later
  index : IndexFault → LineFault Later
  later : Later → LineFault Later
  no_objective : LineFault Later

module _ (limit : ℕ) (words : List Name) (Known Later : Type 0) (order : List Later)
    (has_later : (before now : Known) → Statement → Later → Bool) (step : Known → Statement → Known)
    (is_declared : Known → ℕ → Bool)
    (Is : List Symbol → Indexed Tree → Type 0) where
  -- what is known in front of a line, and the canonical tokens of the lines before it
  pub record State : Type 0 where
    pub known : Known
    pub total : ℕ

  -- a later fault holds on a line where it holds on one of its statements, in order; names are known of the lines
  -- before
  abbrev pub line_has : Known → Known → List Statement → Later → Bool
  line_has before now [] f = false
  line_has before now (s ∷ ss) f = has_later before now s f || line_has before (step now s) ss f

  -- what is known behind some statements
  abbrev pub steps : Known → List Statement → Known
  steps known [] = known
  steps known (s ∷ ss) = steps (step known s) ss

  -- the first fault of a statement: those of indices in their order, then the later ones in theirs
  abbrev pub later_first : Option Later → Option (LineFault Later)
  later_first None = None
  later_first (Some g) = Some (later g)

  -- a fault of indices where there is one, else a later one
  abbrev pub either_first : Option IndexFault → Option (LineFault Later) → Option (LineFault Later)
  either_first None g = g
  either_first (Some f) g = Some (index f)

  -- the fault that decides on a statement
  abbrev pub first_fault : State → Indexed Tree → Option (LineFault Later)
  first_fault e s =
      either_first (named limit words (is_declared e.known) e.total s)
      (later_first (find (line_has e.known e.known (expand words s)) order))

  -- what is known behind a statement, and its canonical tokens among those of the lines before
  abbrev pub behind : State → Indexed Tree → State
  behind e s = record { known = steps e.known (expand words s); total = e.total + lines_tokens limit (expand words s) }

  -- each line is empty or a statement without a fault, and the list is what they stand for, in order
  abbrev pub Follows : State → List (List Symbol) → List Statement → State → Type 0
  Follows e [] list f = (list ≡ []) × (e ≡ f)
  Follows e ([] ∷ lines) list f = Follows e lines list f
  Follows e ((x ∷ xs) ∷ lines) list f =
      (s : Indexed Tree) × (rest : List Statement) × Is (x ∷ xs) s × (first_fault e s ≡ None)
      × (list ≡ expand words s ++ rest) × Follows (behind e s) lines rest f

  -- what is wrong with a line that isn't empty: it is no statement, or it is one and that fault decides
  abbrev pub BreaksLine : State → List Symbol → LineFault Later → Type 0
  BreaksLine e symbols fault =
      ((fault ≡ not_a_statement) × ((s : Indexed Tree) → Is symbols s → ⊥))
      ⊎ ((s : Indexed Tree) × Is symbols s × (first_fault e s ≡ Some fault))

  -- the first bad line decides; lines are counted from 1
  abbrev pub BreaksAt : State → List (List Symbol) → LineFault Later → ℕ → Type 0
  BreaksAt e [] fault n = ⊥
  BreaksAt e ([] ∷ lines) fault n = (m : ℕ) × (n ≡ suc m) × BreaksAt e lines fault m
  BreaksAt e ((x ∷ xs) ∷ lines) fault n =
      (BreaksLine e (x ∷ xs) fault × (n ≡ 1))
      ⊎ ((s : Indexed Tree) × (m : ℕ) × Is (x ∷ xs) s × (first_fault e s ≡ None) × (n ≡ suc m)
      × BreaksAt (behind e s) lines fault m)

  module _ (has_goal : Known → Bool) where
    -- no line is bad, and no goal is there; the number is that of the last line
    pub record BreaksEnd (e : State) (lines : List (List Symbol)) (fault : LineFault Later) (number : ℕ) : Type 0 where
      pub list : List Statement
      pub last : State
      pub follows : Follows e lines list last
      pub no_goal : has_goal last.known ≡ false
      pub fault_is : fault ≡ no_objective
      pub number_is : length lines ≡ number

    -- the lines read as these statements
    pub record ReadsLines (e : State) (lines : List (List Symbol)) (list : List Statement) (last : State) : Type 0 where
      pub follows : Follows e lines list last
      pub goal : has_goal last.known ≡ true

    -- some line decides, or there is no goal at the end
    abbrev pub BreaksLines : State → List (List Symbol) → LineFault Later → ℕ → Type 0
    BreaksLines e lines fault number = BreaksAt e lines fault number ⊎ BreaksEnd e lines fault number

-- the number of a fault's rule
abbrev pub line_rule : {Later : Type 0} → (Later → ℕ) → LineFault Later → ℕ
line_rule rule not_a_statement = 11
line_rule rule (index f) = rule_of f
line_rule rule (later g) = rule g
line_rule rule no_objective = 20
