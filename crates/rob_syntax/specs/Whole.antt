-- What a reader of whole lines finds: a line of rob_index' grammar, of any number of ranges, or none; and a statement.
use Rattle.std.specs.Prelude.{◌≡◌, List}
use Rattle.rob_index.specs.Symbols.{Symbol}
use Rattle.rob_index.specs.Statements.{Indexed, Tree}
use Rattle.rob_index.specs.Grammar.{Expr}
use Rattle.rob_index.specs.Lines.{spell_line, statement_of, IsStatement}
use Rattle.rob_syntax.specs.declared.error.ParseErr.{ParseErr}
use Rattle.rob_syntax.specs.declared.error.ParseErr.TheVariants.{NotAStatement, Memory}

-- the symbols are spelled as one line, whose statement is this
pub record ReadsLine (symbols : List Symbol) (s : Indexed Tree) : Type 0 where
  pub line : Indexed Expr
  pub spelled : symbols ≡ spell_line line
  pub only : (other : Indexed Expr) → symbols ≡ spell_line other → other ≡ line
  pub statement_is : statement_of line ≡ s

-- they are spelled as no line
abbrev pub IsNoLine : List Symbol → Type 0
IsNoLine symbols = (line : Indexed Expr) → symbols ≡ spell_line line → ⊥

-- a refusal's cause; want of memory has none
abbrev pub HasLineCause : List Symbol → ParseErr → Type 0
HasLineCause symbols NotAStatement = IsNoLine symbols
HasLineCause symbols Memory = Unit {0}

-- the symbols are no statement
abbrev pub IsNoStatement : List Symbol → Type 0
IsNoStatement symbols = (s : Indexed Tree) → IsStatement symbols s → ⊥

-- a refusal's cause; want of memory has none
abbrev pub HasStatementCause : List Symbol → ParseErr → Type 0
HasStatementCause symbols NotAStatement = IsNoStatement symbols
HasStatementCause symbols Memory = Unit {0}
