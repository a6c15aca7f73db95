-- Statements one behind another, whatever lines they stand for: what is known of each, and what is known behind them.
use Rattle.std.specs.Prelude.{◌≡◌, ◌≢◌, ℕ, ◌<◌, ◌≤◌, List, [], ◌∷◌, length, get_or, Option, Some, None}
use Rattle.rob_meaning.specs.Places.{Each}
use Rattle.rob_syntax.specs.declared.syntax.Statement.{Statement}
use Rattle.rob_syntax.specs.declared.syntax.Statement.TheVariants.{Uncertain, Over, Set, Budget, Var, Adaptive, Goal, Row}
use Rattle.rob_syntax.specs.Symbols.{keywords, keyword_among, longest_name}
use Rattle.rob_rules.specs.Faults.{expressions, first_fault}
use Rattle.rob_rules.specs.RealTrees.{IsReal}
use Rattle.rob_rules.specs.Links.{Keeps}
use Rattle.rob_rules.specs.Scopes.{Earlier, behind}

-- the name that a statement declares, if it does
abbrev pub declared_name : Statement → Option ℕ
declared_name (Uncertain d) = Some d.name
declared_name (Over k) = Some k
declared_name (Var d) = Some d.name
declared_name (Adaptive p) = Some p.name
declared_name (Row r) = Some r.name
declared_name (Set _) = None
declared_name (Budget _) = None
declared_name (Goal _) = None

-- a budget has a member
abbrev pub HasMember : Statement → Type 0
HasMember (Budget b) = b.members ≢ []
HasMember _ = Unit {0}

module _ (words : List (List ℕ)) where
  -- the number of a word that is no keyword, and not too long
  abbrev pub IsNumber : ℕ → Type 0
  IsNumber k =
      (k < length words)
      × ((keyword_among keywords (get_or words k []) ≡ None) × (length (get_or words k []) ≤ longest_name))

  -- a name that is declared is one
  abbrev pub MayDeclare : Option ℕ → Type 0
  MayDeclare None = Unit {0}
  MayDeclare (Some k) = IsNumber k

  -- a statement as a reader makes it
  pub record IsFormed (s : Statement) : Type 0 where
    pub declares : MayDeclare (declared_name s)
    pub trees : Each IsReal (expressions s)
    pub members : HasMember s

module _ (limit : ℕ) (words : List (List ℕ)) where
  -- a statement without a fault, where this is known in front of it; before it was what is known in front of its line
  pub record IsLink (now : Earlier) (s : Statement) : Type 0 where
    pub before : Earlier
    pub formed : IsFormed words s
    pub keeps : Keeps before now
    pub faultless : first_fault limit before now s ≡ None

  -- one comes by the statements from what is known in front of them to what is known behind
  abbrev pub Chain : Earlier → List Statement → Earlier → Type 0
  Chain e [] f = e ≡ f
  Chain e (s ∷ list) f = IsLink e s × Chain (behind e s) list f
