-- The statements: a constructor for each line of their grammar, how it is spelled, and what the parser makes of it.
use Rattle.std.specs.Prelude.{◌≡◌, ℕ, List, [], ◌∷◌, ◌++◌, Option, Some, None}
use Rattle.rob_syntax.specs.declared.symbol.Symbol.{Symbol}
use Rattle.rob_syntax.specs.declared.symbol.Symbol.TheVariants.{Name, Sign, Reserved}
use Rattle.rob_syntax.specs.declared.symbol.Mark.TheVariants as mark
use Rattle.rob_syntax.specs.declared.symbol.Keyword.TheVariants as word
use Rattle.rob_syntax.specs.declared.syntax.Numeral.{Numeral}
use Rattle.rob_syntax.specs.declared.syntax.Signed.{Signed}
use Rattle.rob_syntax.specs.declared.syntax.Interval.{Interval}
use Rattle.rob_syntax.specs.declared.syntax.Bounds.{Bounds}
use Rattle.rob_syntax.specs.declared.syntax.Bounds.TheVariants.{Between, AtLeast, AtMost}
use Rattle.rob_syntax.specs.declared.syntax.Rel.{Rel}
use Rattle.rob_syntax.specs.declared.syntax.Rel.TheVariants as rel
use Rattle.rob_syntax.specs.declared.syntax.Sense.{Sense}
use Rattle.rob_syntax.specs.declared.syntax.Sense.TheVariants as sense
use Rattle.rob_syntax.specs.declared.syntax.Declared.{Declared}
use Rattle.rob_syntax.specs.declared.syntax.Spread.{Spread}
use Rattle.rob_syntax.specs.declared.syntax.Member.{Member}
use Rattle.rob_syntax.specs.declared.syntax.Budget.{Budget}
use Rattle.rob_syntax.specs.declared.syntax.Policy.{Policy}
use Rattle.rob_syntax.specs.declared.syntax.Relation.{Relation}
use Rattle.rob_syntax.specs.declared.syntax.Row.{Row}
use Rattle.rob_syntax.specs.declared.syntax.Statement.{Statement}
use Rattle.rob_syntax.specs.declared.syntax.Statement.TheVariants as parsed
use Rattle.rob_syntax.specs.Grammar.{Expr, spell_number, spell_minus, spell_expr, tree_expr}
use Rattle.rob_syntax.specs.Lists.{spell_more, spell_list}

-- expr [ "over" name ]: an expression that ends a line, and the set that the line answers to
pub record Ending : Type 0 where
  pub inner : Expr
  pub over : Option ℕ

-- expr rel expr [ "over" name ]
pub record Sides : Type 0 where
  pub left : Expr
  pub rel : Rel
  pub right : Ending

-- name ":" expr rel expr [ "over" name ]
pub record Titled : Type 0 where
  pub name : ℕ
  pub sides : Sides

-- member { "," member } [ "over" name ]
pub record Members : Type 0 where
  pub first : Member
  pub more : List Member
  pub over : Option ℕ

-- number ":" member { "," member } [ "over" name ]
pub record Shares : Type 0 where
  pub limit : Numeral
  pub members : Members

-- a line of the grammar's table each
pub data Line : Type 0 where
  uncertain : Declared → Line
  over : ℕ → Line
  set : Sides → Line
  budget : Shares → Line
  variable : Declared → Line
  adaptive : Policy → Line
  goal : Sense → Ending → Line
  row : Titled → Line

-- [ "-" ] number
abbrev pub spell_signed : Signed → List Symbol
spell_signed s = spell_minus s.minus ++ spell_number s.number

-- the upper bound and its bracket
abbrev pub spell_closed : Signed → List Symbol
spell_closed b = spell_signed b ++ Sign mark.CloseBracket ∷ []

-- both bounds behind the opening bracket
abbrev pub spell_interval : Interval → List Symbol
spell_interval p = spell_signed p.lower ++ Sign mark.Comma ∷ spell_closed p.upper

-- "in" "[" signed "," signed "]" | ">=" signed | "<=" signed
abbrev pub spell_bounds : Bounds → List Symbol
spell_bounds (Between both) = Reserved word.In ∷ Sign mark.OpenBracket ∷ spell_interval both
spell_bounds (AtLeast a) = Sign mark.AtLeast ∷ spell_signed a
spell_bounds (AtMost b) = Sign mark.AtMost ∷ spell_signed b

-- [ bounds ]
abbrev pub spell_optional : Option Bounds → List Symbol
spell_optional None = []
spell_optional (Some b) = spell_bounds b

-- a name and its bounds
abbrev pub spell_declared : Declared → List Symbol
spell_declared d = Name d.name ∷ spell_optional d.bounds

-- "<=" | ">=" | "="
abbrev pub spell_rel : Rel → Symbol
spell_rel rel.AtMost = Sign mark.AtMost
spell_rel rel.AtLeast = Sign mark.AtLeast
spell_rel rel.Equal = Sign mark.Equal

-- both spellings of a goal are one symbol
abbrev pub spell_sense : Sense → Symbol
spell_sense sense.Minimise = Reserved word.Minimise
spell_sense sense.Maximise = Reserved word.Maximise

-- signed "by" number
abbrev pub spell_spread : Spread → List Symbol
spell_spread p = spell_signed p.centre ++ Reserved word.By ∷ spell_number p.deviation

-- name "at" signed "by" number
abbrev pub spell_member : Member → List Symbol
spell_member m = Name m.name ∷ Reserved word.At ∷ spell_spread m.spread

-- a name
abbrev pub spell_name : ℕ → List Symbol
spell_name k = Name k ∷ []

-- [ name { "," name } ] ")" [ bounds ]
abbrev pub spell_rule : Policy → List Symbol
spell_rule p = spell_list spell_name p.on ++ Sign mark.Close ∷ spell_optional p.bounds

-- name "(" [ name { "," name } ] ")" [ bounds ]
abbrev pub spell_policy : Policy → List Symbol
spell_policy p = Name p.name ∷ Sign mark.Open ∷ spell_rule p

-- [ "over" name ]
abbrev pub spell_over : Option ℕ → List Symbol
spell_over None = []
spell_over (Some k) = Reserved word.Over ∷ Name k ∷ []

-- expr [ "over" name ]
abbrev pub spell_ending : Ending → List Symbol
spell_ending e = spell_expr e.inner ++ spell_over e.over

-- member { "," member } [ "over" name ]
abbrev pub spell_members : Members → List Symbol
spell_members m = (spell_member m.first ++ spell_more spell_member m.more) ++ spell_over m.over

-- number ":" member { "," member } [ "over" name ]
abbrev pub spell_shares : Shares → List Symbol
spell_shares s = spell_number s.limit ++ Sign mark.Colon ∷ spell_members s.members

-- expr rel expr [ "over" name ]
abbrev pub spell_sides : Sides → List Symbol
spell_sides s = spell_expr s.left ++ spell_rel s.rel ∷ spell_ending s.right

-- name ":" expr rel expr [ "over" name ]
abbrev pub spell_titled : Titled → List Symbol
spell_titled t = Name t.name ∷ Sign mark.Colon ∷ spell_sides t.sides

-- the grammar's table of statements
abbrev pub spell_line : Line → List Symbol
spell_line (uncertain d) = Reserved word.Uncertain ∷ spell_declared d
spell_line (over k) = Reserved word.Over ∷ Name k ∷ []
spell_line (set s) = Reserved word.Set ∷ spell_sides s
spell_line (budget s) = Reserved word.Budget ∷ spell_shares s
spell_line (variable d) = Reserved word.Var ∷ spell_declared d
spell_line (adaptive p) = Reserved word.Adaptive ∷ spell_policy p
spell_line (goal sense e) = spell_sense sense ∷ spell_ending e
spell_line (row t) = Reserved word.Row ∷ spell_titled t

-- both sides with their trees, and the set
abbrev pub relation_of : Sides → Relation
relation_of s = record { left = tree_expr s.left; rel = s.rel; right = tree_expr s.right.inner; over = s.right.over }

-- the row with its trees
abbrev pub row_of : Titled → Row
row_of t = record { name = t.name; relation = relation_of t.sides }

-- all members
abbrev pub members_of : Members → List Member
members_of m = m.first ∷ m.more

-- the budget with all its members, and its set
abbrev pub budget_of : Shares → Budget
budget_of s = record { limit = s.limit; members = members_of s.members; over = s.members.over }

-- the statement with its trees
abbrev pub statement_of : Line → Statement
statement_of (uncertain d) = parsed.Uncertain d
statement_of (over k) = parsed.Over k
statement_of (set s) = parsed.Set (relation_of s)
statement_of (budget s) = parsed.Budget (budget_of s)
statement_of (variable d) = parsed.Var d
statement_of (adaptive p) = parsed.Adaptive p
statement_of (goal sense e) = parsed.Goal (record { sense = sense; objective = tree_expr e.inner; over = e.over })
statement_of (row t) = parsed.Row (row_of t)

-- the symbols of a line are this statement
pub record IsStatement (symbols : List Symbol) (s : Statement) : Type 0 where
  pub line : Line
  pub spelled : symbols ≡ spell_line line
  pub statement_is : statement_of line ≡ s
