-- Trees as a reader makes them.
use Rattle.std.specs.Prelude.{true, false}
use Rattle.rob_syntax.specs.Trees.{Tree, number, name, sum, product, Summands, no_summands, summand, Operands, no_operands, operand}

-- a sum has two parts, or one that is subtracted
abbrev pub IsLongSum : Summands → Type 0
IsLongSum no_summands = ⊥
IsLongSum (summand true t ts) = Unit {0}
IsLongSum (summand false t no_summands) = ⊥
IsLongSum (summand false t (summand minus u us)) = Unit {0}

-- a product has two factors or more
abbrev pub IsLongProduct : Operands → Type 0
IsLongProduct no_operands = ⊥
IsLongProduct (operand f no_operands) = ⊥
IsLongProduct (operand f (operand g gs)) = Unit {0}

-- each sum and each product in the tree is so long
abbrev mutual
  pub IsReal : Tree → Type 0
  IsReal (number n) = Unit {0}
  IsReal (name k) = Unit {0}
  IsReal (sum ts) = IsLongSum ts × AreReal ts
  IsReal (product fs) = IsLongProduct fs × OperandsReal fs

  pub AreReal : Summands → Type 0
  AreReal no_summands = Unit {0}
  AreReal (summand minus t ts) = IsReal t × AreReal ts

  pub OperandsReal : Operands → Type 0
  OperandsReal no_operands = Unit {0}
  OperandsReal (operand f fs) = IsReal f × OperandsReal fs
