-- Expressions as plain trees, just as they are written; the parser's trees as such.
use Rattle.std.specs.Prelude.{ℕ, Bool, List, [], ◌∷◌}
use Rattle.rob_syntax.specs.declared.syntax.Numeral.{Numeral}
use Rattle.rob_syntax.specs.declared.syntax.Syntax.{Syntax, Syntax-F, fold-Syntax}
use Rattle.rob_syntax.specs.declared.syntax.Summand.{Summand, Summand-F, fold-Summand}

mutual
  -- a number, a name, a sum or a product
  pub data Tree : Type 0 where
    number : Numeral → Tree
    name : (word : ℕ) → Tree
    sum : Summands → Tree
    product : Operands → Tree

  -- the parts of a sum, each added, or subtracted where `minus` is true
  pub data Summands : Type 0 where
    no_summands : Summands
    summand : (minus : Bool) (inner : Tree) → Summands → Summands

  -- the factors of a product
  pub data Operands : Type 0 where
    no_operands : Operands
    operand : Tree → Operands → Operands

-- a part of a sum with its sign
pub record Part : Type 0 where
  pub minus : Bool
  pub inner : Tree

-- the parts of a list
abbrev pub summands_of : List Part → Summands
summands_of [] = no_summands
summands_of (p ∷ ps) = summand p.minus p.inner (summands_of ps)

-- the factors of a list
abbrev pub operands_of : List Tree → Operands
operands_of [] = no_operands
operands_of (f ∷ fs) = operand f (operands_of fs)

-- one level of the parser's tree, with what is inside already seen as trees
abbrev pub tree_step : Syntax-F Tree Part → Tree
tree_step (Syntax-F.Number n) = number n
tree_step (Syntax-F.Name k) = name k
tree_step (Syntax-F.Sum ps) = sum (summands_of ps)
tree_step (Syntax-F.Product fs) = product (operands_of fs)

-- one level of a signed part
abbrev pub part_step : Summand-F Tree Part → Part
part_step s = record { minus = s.minus; inner = s.inner }

-- the parser's tree as a plain tree
abbrev pub tree_of : Syntax → Tree
tree_of = fold-Syntax Tree Part tree_step part_step

-- the same of a signed part
abbrev pub part_of : Summand → Part
part_of = fold-Summand Tree Part tree_step part_step
