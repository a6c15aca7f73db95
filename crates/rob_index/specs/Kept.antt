-- What plain statements keep that lines read as: each is of the expansion of a line on which no fault of indices holds.
use Rattle.std.specs.Prelude.{◌≡◌, ℕ, Bool, false, List}
use Rattle.rob_index.specs.Symbols.{Symbol}
use Rattle.rob_index.specs.Statements.{Name, Statement, Tree, Indexed}
use Rattle.rob_index.specs.Expansion.{expand}
use Rattle.rob_index.specs.Membership.{Among}
use Rattle.rob_index.specs.Rules.{IndexFault, has_fault}

module _ (limit : ℕ) (words : List Name) (Known : Type 0) (is_declared : Known → ℕ → Bool)
    (Is : List Symbol → Indexed Tree → Type 0) where
  -- the plain statement is of such a line, with what is known in front of the line and the canonical tokens up to there
  pub record IsOfLine (lines : List (List Symbol)) (p : Statement) : Type 0 where
    pub symbols : List Symbol
    pub line : Among symbols lines
    pub statement : Indexed Tree
    pub is : Is symbols statement
    pub known : Known
    pub total : ℕ
    pub faultless : (fault : IndexFault)
        → has_fault limit words (is_declared known) total statement fault ≡ false
    pub expanded : Among p (expand words statement)
