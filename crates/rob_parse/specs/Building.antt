-- What the steps from statements to a model ask for and say.
use Rattle.std.specs.Prelude.{◌≡◌, ℕ, ◌+◌, ◌*◌, ◌^◌, ◌≤◌, ◌<◌, ◌++◌, Option, Some, None, unwrap_or}
use Rattle.rob_meaning.specs.Places.{Each}
use Rattle.rob_meaning.specs.RobustModel.{RobustModel}
use Rattle.rob_rules.specs.declared.sort.Sort.{Sort}
use Rattle.std.specs.Prelude.{List}
use Rattle.rob_syntax.specs.declared.syntax.Numeral.{Numeral}
use Rattle.rob_syntax.specs.declared.syntax.Bounds.{Bounds}
use Rattle.rob_syntax.specs.declared.syntax.Bounds.TheVariants.{Between, AtLeast, AtMost}
use Rattle.rob_syntax.specs.declared.syntax.Member.{Member}
use Rattle.rob_syntax.specs.declared.syntax.Relation.{Relation}
use Rattle.rob_syntax.specs.declared.syntax.Statement.{Statement}
use Rattle.rob_syntax.specs.declared.syntax.Statement.TheVariants.{Uncertain, Over, Set, Budget, Var, Adaptive, Goal, Row}
use Rattle.rob_parse.specs.declared.place.Place.{Place}
use Rattle.rob_rules.specs.declared.scope.Scope.{Scope}
use Rattle.rob_parse.specs.Written.{parameters, sets, variables, adaptives, set_lines, rows, parameter_at}
use Rattle.rob_parse.specs.Models.{each_taken, line_sets, line_taken, row_sets, row_taken, set_at}
use Rattle.rob_syntax.specs.Trees.{Tree, number, name, sum, product, Summands, no_summands, summand, Operands, no_operands, operand, tree_of}

module _ (limit : ℕ) where
  -- digits within the limit, and no divisor 0
  pub record FitsNumber (n : Numeral) : Type 0 where
    pub numerator : n.numerator ≤ limit
    pub divisor : unwrap_or n.divisor 1 ≤ limit
    pub positive : 0 < unwrap_or n.divisor 1

  -- each number of a part of a statement is so
  abbrev pub FitsBounds : Option Bounds → Type 0
  FitsBounds None = Unit {0}
  FitsBounds (Some (Between both)) = FitsNumber both.lower.number × FitsNumber both.upper.number
  FitsBounds (Some (AtLeast a)) = FitsNumber a.number
  FitsBounds (Some (AtMost b)) = FitsNumber b.number

  abbrev mutual
    pub FitsTree : Tree → Type 0
    FitsTree (number n) = FitsNumber n
    FitsTree (name k) = Unit {0}
    FitsTree (sum ts) = FitsSummands ts
    FitsTree (product fs) = FitsOperands fs

    pub FitsSummands : Summands → Type 0
    FitsSummands no_summands = Unit {0}
    FitsSummands (summand minus t ts) = FitsTree t × FitsSummands ts

    pub FitsOperands : Operands → Type 0
    FitsOperands no_operands = Unit {0}
    FitsOperands (operand f fs) = FitsTree f × FitsOperands fs

  -- of a member of a budget
  abbrev pub FitsMember : Member → Type 0
  FitsMember m = FitsNumber m.spread.centre.number × FitsNumber m.spread.deviation

  -- of both sides of a relation
  abbrev pub FitsRelation : Relation → Type 0
  FitsRelation r = FitsTree (tree_of r.left) × FitsTree (tree_of r.right)

  -- of a statement
  abbrev pub FitsStatement : Statement → Type 0
  FitsStatement (Uncertain d) = FitsBounds d.bounds
  FitsStatement (Over k) = Unit {0}
  FitsStatement (Set r) = FitsRelation r
  FitsStatement (Budget b) = FitsNumber b.limit × Each FitsMember b.members
  FitsStatement (Var d) = FitsBounds d.bounds
  FitsStatement (Adaptive p) = FitsBounds p.bounds
  FitsStatement (Goal g) = FitsTree (tree_of g.objective)
  FitsStatement (Row r) = FitsRelation r.relation

-- the number of each written parameter, as the set takes it, fits a machine's number
abbrev pub HasRoom : List (Option Sort) → Place → Type 0
HasRoom sorts place = (name : ℕ) → place.set * place.count + parameter_at sorts name < 2 ^ 32

-- the set that a line is over, and how many parameters the text writes, as the code keeps them
abbrev pub place_of : Scope → Option ℕ → Place
place_of scope over = record { count = scope.sizes.parameters; set = set_at scope.sorts.items over }

-- so it is for the set of every line
pub record HasRoomForAll (scope : Scope) : Type 0 where
  pub count : scope.sizes.parameters < 2 ^ 32
  pub room : (over : Option ℕ) → HasRoom scope.sorts.items (place_of scope over)

-- a model has got the parts that a statement says, taken in the statement's set
pub record HasAdded (words : List (List ℕ)) (scope : Scope) (s : Statement) (old new : RobustModel) : Type 0 where
  pub parameters_are : new.parameters ≡ old.parameters ++ parameters words s
  pub set_lines_are : new.set_lines ≡ old.set_lines ++ each_taken (line_taken scope.sizes.parameters)
      (set_lines scope.sorts.items s) (line_sets scope.sorts.items s)
  pub variables_are : new.variables ≡ old.variables ++ variables words s
  pub adaptives_are : new.adaptives ≡ old.adaptives ++ adaptives words scope.sorts.items s
  pub rows_are : new.rows ≡ old.rows ++ each_taken (row_taken scope.sizes.parameters) (rows words scope.sorts.items s)
      (row_sets scope.sorts.items s)
  pub sense_is : new.sense ≡ old.sense
  pub objective_is : new.objective ≡ old.objective
  pub sets_are : new.sets ≡ old.sets ++ sets words s
  pub line_sets_are : new.line_sets ≡ old.line_sets ++ line_sets scope.sorts.items s
  pub objective_set_is : new.objective_set ≡ old.objective_set
  pub row_sets_are : new.row_sets ≡ old.row_sets ++ row_sets scope.sorts.items s
