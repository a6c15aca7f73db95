-- The names and the numbers of a plain statement.
use Rattle.std.specs.Prelude.{List, [], ◌∷◌, ◌++◌, map, Option, Some, None}
use Rattle.std.specs.List.{flat_map}
use Rattle.rob_rules.specs.declared.leaf.Leaf.{Leaf}
use Rattle.rob_rules.specs.declared.leaf.Leaf.TheVariants.{Name, Number}
use Rattle.rob_syntax.specs.declared.syntax.Bounds.{Bounds}
use Rattle.rob_syntax.specs.declared.syntax.Bounds.TheVariants.{Between, AtLeast, AtMost}
use Rattle.rob_syntax.specs.declared.syntax.Member.{Member}
use Rattle.rob_syntax.specs.declared.syntax.Relation.{Relation}
use Rattle.rob_syntax.specs.declared.syntax.Statement.{Statement}
use Rattle.rob_syntax.specs.declared.syntax.Statement.TheVariants.{Uncertain, Over, Set, Budget, Var, Adaptive, Goal, Row}
use Rattle.rob_syntax.specs.Trees.{Tree, number, name, sum, product, Summands, no_summands, summand, Operands, no_operands, operand, tree_of}

abbrev mutual
  -- those of an expression, from the left to the right
  pub leaves : Tree → List Leaf
  leaves (number n) = Number n ∷ []
  leaves (name k) = Name k ∷ []
  leaves (sum ts) = part_leaves ts
  leaves (product fs) = factor_leaves fs

  -- those of the parts of a sum
  pub part_leaves : Summands → List Leaf
  part_leaves no_summands = []
  part_leaves (summand minus t ts) = leaves t ++ part_leaves ts

  -- those of the factors of a product
  pub factor_leaves : Operands → List Leaf
  factor_leaves no_operands = []
  factor_leaves (operand f fs) = leaves f ++ factor_leaves fs

-- the numbers of bounds
abbrev pub bound_leaves : Option Bounds → List Leaf
bound_leaves None = []
bound_leaves (Some (Between both)) = Number both.lower.number ∷ Number both.upper.number ∷ []
bound_leaves (Some (AtLeast a)) = Number a.number ∷ []
bound_leaves (Some (AtMost b)) = Number b.number ∷ []

-- a member's name, centre and deviation
abbrev pub member_leaves : Member → List Leaf
member_leaves m = Name m.name ∷ Number m.spread.centre.number ∷ Number m.spread.deviation ∷ []

-- those of both sides
abbrev pub relation_leaves : Relation → List Leaf
relation_leaves r = leaves (tree_of r.left) ++ leaves (tree_of r.right)

-- the names that a statement uses, but for the one behind `over`, and its numbers, from the left to the right
abbrev pub statement_leaves : Statement → List Leaf
statement_leaves (Uncertain d) = bound_leaves d.bounds
statement_leaves (Over k) = []
statement_leaves (Set r) = relation_leaves r
statement_leaves (Budget b) = Number b.limit ∷ flat_map member_leaves b.members
statement_leaves (Var d) = bound_leaves d.bounds
statement_leaves (Adaptive p) = map Name p.on ++ bound_leaves p.bounds
statement_leaves (Goal g) = leaves (tree_of g.objective)
statement_leaves (Row r) = relation_leaves r.relation

-- the members of a budget
abbrev pub members_of : Statement → List Member
members_of (Budget b) = b.members
members_of _ = []
