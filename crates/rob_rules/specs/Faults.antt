-- What may be wrong with a plain statement, judged on its names, numbers and trees, and on what is known in front of
-- its line and in front of itself.
use Rattle.std.specs.Prelude.{ℕ, nat_lt, ◌==◌, not, Bool, true, false, ◌&&◌, ◌||◌, List, [], ◌∷◌, is_some, Option, Some, None}
use Rattle.std.specs.List.{list_any, find, flat_map}
use Rattle.rob_syntax.specs.declared.syntax.Member.{Member}
use Rattle.rob_rules.specs.declared.sort.Sort.{Sort}
use Rattle.rob_rules.specs.declared.sort.Sort.TheVariants as sort
use Rattle.rob_rules.specs.declared.sort.Sort.TheVariants.{Parameter, Decision, Policy, RowName}
use Rattle.rob_syntax.specs.declared.syntax.Statement.{Statement}
use Rattle.rob_syntax.specs.declared.syntax.Statement.TheVariants.{Set, Budget, Adaptive, Goal, Row}
use Rattle.rob_rules.specs.declared.fault.Fault.{Fault}
use Rattle.rob_rules.specs.declared.fault.Fault.TheVariants.{NameTwice, NameUnknown, NumberTooLong, DeviationNotPositive, TwoDecisions, TwoUncertain, RandomRecourse, DecisionInSet, NoObjective, ObjectiveTwice, Limit, ZeroDivisor}
use Rattle.rob_rules.specs.declared.leaf.Leaf.{Leaf}
use Rattle.rob_rules.specs.declared.leaf.Leaf.TheVariants as leaf
use Rattle.rob_rules.specs.Degrees.{Degree, sort_at, products}
use Rattle.rob_rules.specs.Leaves.{statement_leaves, members_of}
use Rattle.rob_syntax.specs.Trees.{Tree, tree_of}
use Rattle.rob_rules.specs.Sizes.{counted, is_within}
use Rattle.rob_rules.specs.Scopes.{Earlier, declared_by, is_goal}

-- a product is of degree over 1 in the decisions
abbrev pub has_two_decisions : Degree → Bool
has_two_decisions d = nat_lt 1 d.decision

-- a product without an adaptive variable that depends on a parameter is of degree over 1 in the parameters
abbrev pub has_two_uncertain : Degree → Bool
has_two_uncertain d = not d.recourse && nat_lt 1 d.uncertain

-- a product with such an adaptive variable is
abbrev pub has_random_recourse : Degree → Bool
has_random_recourse d = d.recourse && nat_lt 1 d.uncertain

-- the expressions of a statement
abbrev pub expressions : Statement → List Tree
expressions (Set r) = tree_of r.left ∷ tree_of r.right ∷ []
expressions (Goal g) = tree_of g.objective ∷ []
expressions (Row r) = tree_of r.relation.left ∷ tree_of r.relation.right ∷ []
expressions _ = []

-- the name behind `over` at the end of a statement, if one is there
abbrev pub over_of : Statement → Option ℕ
over_of (Set r) = r.over
over_of (Budget b) = b.over
over_of (Goal g) = g.over
over_of (Row r) = r.relation.over
over_of _ = None

-- an adaptive variable or a budget, whose names are a list
abbrev pub is_listing : Statement → Bool
is_listing (Adaptive _) = true
is_listing (Budget _) = true
is_listing _ = false

-- a set statement, a budget or an adaptive variable, whose names are parameters
abbrev pub is_of_set : Statement → Bool
is_of_set (Set _) = true
is_of_set (Budget _) = true
is_of_set (Adaptive _) = true
is_of_set _ = false

-- a name that may be used: it is declared, and is neither a row's nor a set's
abbrev pub is_usable : Option Sort → Bool
is_usable (Some (Parameter _)) = true
is_usable (Some (Decision _)) = true
is_usable (Some (Policy _ _)) = true
is_usable (Some RowName) = false
is_usable (Some (sort.Set _)) = false
is_usable None = false

-- a variable or an adaptive variable
abbrev pub is_decision : Option Sort → Bool
is_decision (Some (Decision _)) = true
is_decision (Some (Policy _ _)) = true
is_decision _ = false

-- the name of a set
abbrev pub is_set : Option Sort → Bool
is_set (Some (sort.Set _)) = true
is_set _ = false

-- the name behind `over` isn't a set's
abbrev pub is_over_none : List (Option Sort) → Option ℕ → Bool
is_over_none sorts None = false
is_over_none sorts (Some k) = not (is_set (sort_at sorts k))

-- it is the name of this number
abbrev pub is_name : ℕ → Leaf → Bool
is_name k (leaf.Name j) = k == j
is_name k (leaf.Number n) = false

-- it is a name that may not be used
abbrev pub is_unknown : List (Option Sort) → Leaf → Bool
is_unknown sorts (leaf.Name k) = not (is_usable (sort_at sorts k))
is_unknown sorts (leaf.Number n) = false

-- it is the name of a variable or an adaptive variable
abbrev pub names_decision : List (Option Sort) → Leaf → Bool
names_decision sorts (leaf.Name k) = is_decision (sort_at sorts k)
names_decision sorts (leaf.Number n) = false

-- the digits behind `/` have a value over the limit
abbrev pub has_divisor_over : ℕ → Option ℕ → Bool
has_divisor_over limit None = false
has_divisor_over limit (Some d) = nat_lt limit d

-- it is a number with digits whose value is over the limit
abbrev pub is_over : ℕ → Leaf → Bool
is_over limit (leaf.Name k) = false
is_over limit (leaf.Number n) = nat_lt limit n.numerator || has_divisor_over limit n.divisor

-- the digits behind `/` have the value 0
abbrev pub is_zero_divisor : Option ℕ → Bool
is_zero_divisor None = false
is_zero_divisor (Some d) = d == 0

-- it is a number with such a divisor
abbrev pub has_zero_divisor : Leaf → Bool
has_zero_divisor (leaf.Name k) = false
has_zero_divisor (leaf.Number n) = is_zero_divisor n.divisor

-- a member whose deviation has a numerator of value 0
abbrev pub is_certain : Member → Bool
is_certain m = m.spread.deviation.numerator == 0

-- some name stands there twice
abbrev pub has_twice : List Leaf → Bool
has_twice [] = false
has_twice (leaf.Name k ∷ rest) = list_any (is_name k) rest || has_twice rest
has_twice (leaf.Number n ∷ rest) = has_twice rest

-- a declared name is declared already
abbrev pub is_declared : List (Option Sort) → Option (ℕ × Sort) → Bool
is_declared sorts None = false
is_declared sorts (Some d) = is_some (sort_at sorts d.0)

-- the faults of statements, in the order in which they are judged
abbrev pub in_order : List Fault
in_order =
    NameTwice ∷ NameUnknown ∷ NumberTooLong ∷ DeviationNotPositive ∷ TwoDecisions ∷ TwoUncertain ∷ RandomRecourse
    ∷ DecisionInSet ∷ ObjectiveTwice ∷ Limit ∷ ZeroDivisor ∷ []

-- given what is known in front of the line, and what is known in front of the statement, since a line may stand for
-- several
module _ (limit : ℕ) (before now : Earlier) (s : Statement) where
  -- some product of the statement is so
  abbrev pub some_product : (Degree → Bool) → Bool
  some_product test = list_any test (flat_map (products before.sorts) (expressions s))

  -- what each fault is; the one that is no fault of a statement is judged elsewhere
  abbrev pub has_fault : Fault → Bool
  has_fault NameTwice =
      is_declared now.sorts (declared_by now.sizes s) || (is_listing s && has_twice (statement_leaves s))
  has_fault NameUnknown =
      list_any (is_unknown before.sorts) (statement_leaves s) || is_over_none before.sorts (over_of s)
  has_fault NumberTooLong = list_any (is_over limit) (statement_leaves s)
  has_fault DeviationNotPositive = list_any is_certain (members_of s)
  has_fault TwoDecisions = some_product has_two_decisions
  has_fault TwoUncertain = some_product has_two_uncertain
  has_fault RandomRecourse = some_product has_random_recourse
  has_fault DecisionInSet = is_of_set s && list_any (names_decision before.sorts) (statement_leaves s)
  has_fault ObjectiveTwice = is_goal s && now.goal
  has_fault Limit = not (is_within (counted now.sizes s))
  has_fault ZeroDivisor = list_any has_zero_divisor (statement_leaves s)
  has_fault NoObjective = false

  -- the fault that decides: the first of them, in the order of the rules' numbers
  abbrev pub first_fault : Option Fault
  first_fault = find has_fault in_order

-- the number of a fault's rule
abbrev pub rule_of : Fault → ℕ
rule_of NameTwice = 12
rule_of NameUnknown = 13
rule_of NumberTooLong = 14
rule_of DeviationNotPositive = 15
rule_of TwoDecisions = 16
rule_of TwoUncertain = 17
rule_of RandomRecourse = 18
rule_of DecisionInSet = 19
rule_of NoObjective = 20
rule_of ObjectiveTwice = 21
rule_of Limit = 22
rule_of ZeroDivisor = 23
