-- What a text's statements write, over the written parameters and without sets: the parts of each kind in order, each
-- name as its number, and numbers as fractions.
use Rattle.std.specs.Prelude.{ℕ, pos, List, [], ◌∷◌, map, get_or, Option, Some, None, unwrap_or}
use Rattle.std.specs.List.{flat_map}
use Rattle.rob_algebra.specs.Fraction.{Fraction, of_pair}
use Rattle.rob_meaning.specs.Expressions as meaning
use Rattle.rob_meaning.specs.Values.{signed}
use Rattle.rob_meaning.specs.RobustModel as model
use Rattle.rob_rules.specs.declared.sort.Sort.{Sort}
use Rattle.rob_rules.specs.declared.sort.Sort.TheVariants as sort
use Rattle.rob_rules.specs.declared.sort.Sort.TheVariants.{Parameter, Decision, Policy, RowName}
use Rattle.rob_syntax.specs.declared.syntax.Numeral.{Numeral}
use Rattle.rob_syntax.specs.declared.syntax.Signed.{Signed}
use Rattle.rob_syntax.specs.declared.syntax.Bounds.{Bounds}
use Rattle.rob_syntax.specs.declared.syntax.Bounds.TheVariants.{Between, AtLeast, AtMost}
use Rattle.rob_syntax.specs.declared.syntax.Rel.{Rel}
use Rattle.rob_syntax.specs.declared.syntax.Rel.TheVariants as rel
use Rattle.rob_syntax.specs.declared.syntax.Sense.{Sense}
use Rattle.rob_syntax.specs.declared.syntax.Sense.TheVariants as sense
use Rattle.rob_syntax.specs.declared.syntax.Member.{Member}
use Rattle.rob_syntax.specs.declared.syntax.Goal.{Goal}
use Rattle.rob_syntax.specs.declared.syntax.Statement.{Statement}
use Rattle.rob_syntax.specs.declared.syntax.Statement.TheVariants as parsed
use Rattle.rob_rules.specs.Degrees.{sort_at}
use Rattle.rob_syntax.specs.Trees.{Tree, number, name, sum, product, Summands, no_summands, summand, Operands, no_operands, operand, tree_of}

-- a number as it is written
abbrev pub fraction : Numeral → Fraction
fraction n = of_pair (pos n.numerator) (unwrap_or n.divisor 1)

-- the same with its sign
abbrev pub signed_fraction : Signed → Fraction
signed_fraction s = signed s.minus (fraction s.number)

-- the lower bound, where one is written
abbrev pub lower_bound : Option Bounds → Option Fraction
lower_bound None = None
lower_bound (Some (Between both)) = Some (signed_fraction both.lower)
lower_bound (Some (AtLeast a)) = Some (signed_fraction a)
lower_bound (Some (AtMost b)) = None

-- the upper bound, where one is written
abbrev pub upper_bound : Option Bounds → Option Fraction
upper_bound None = None
upper_bound (Some (Between both)) = Some (signed_fraction both.upper)
upper_bound (Some (AtLeast a)) = None
upper_bound (Some (AtMost b)) = Some (signed_fraction b)

-- a relation
abbrev pub relation_of : Rel → model.Relation
relation_of rel.AtMost = model.at_most
relation_of rel.AtLeast = model.at_least
relation_of rel.Equal = model.equal

-- the sense of a goal
abbrev pub sense_of : Sense → model.Sense
sense_of sense.Minimise = model.minimise
sense_of sense.Maximise = model.maximise

-- the number of a parameter; nothing else stands where one is asked for
abbrev pub parameter_number : Option Sort → ℕ
parameter_number (Some (Parameter k)) = k
parameter_number _ = 0

-- what a name is in an expression; a name that may not be used is the empty sum
abbrev pub named : Option Sort → meaning.Expression
named (Some (Parameter k)) = meaning.parameter k
named (Some (Decision k)) = meaning.variable k
named (Some (Policy k depends)) = meaning.adaptive k
named (Some RowName) = meaning.sum meaning.no_terms
named (Some (sort.Set S)) = meaning.sum meaning.no_terms
named None = meaning.sum meaning.no_terms

-- the goal, if there is one
abbrev pub goal_in : List Statement → Option Goal
goal_in [] = None
goal_in (parsed.Goal g ∷ rest) = Some g
goal_in (_ ∷ rest) = goal_in rest

module _ (sorts : List (Option Sort)) where
  abbrev mutual
    -- an expression
    pub expression : Tree → meaning.Expression
    expression (number n) = meaning.number (fraction n)
    expression (name k) = named (sort_at sorts k)
    expression (sum ts) = meaning.sum (terms ts)
    expression (product fs) = meaning.product (factors fs)

    pub terms : Summands → meaning.Terms
    terms no_summands = meaning.no_terms
    terms (summand minus t ts) = meaning.term minus (expression t) (terms ts)

    pub factors : Operands → meaning.Factors
    factors no_operands = meaning.no_factors
    factors (operand f fs) = meaning.factor (expression f) (factors fs)

  -- the number of the parameter of this name
  abbrev pub parameter_at : ℕ → ℕ
  parameter_at k = parameter_number (sort_at sorts k)

  -- a member of a budget
  abbrev pub member : Member → model.Member
  member m =
      record {
        parameter = parameter_at m.name;
        centre = signed_fraction m.spread.centre;
        deviation =
            fraction m.spread.deviation;
      }

  -- the statement on the set that a statement is, if it is one
  abbrev pub set_lines : Statement → List model.SetLine
  set_lines (parsed.Set r) =
      model.line (expression (tree_of r.left)) (relation_of r.rel) (expression (tree_of r.right)) ∷ []
  set_lines (parsed.Budget b) = model.budget (fraction b.limit) (map member b.members) ∷ []
  set_lines _ = []

  -- the objective
  abbrev pub objective_of : Option Goal → meaning.Expression
  objective_of None = meaning.sum meaning.no_terms
  objective_of (Some g) = expression (tree_of g.objective)

-- whether the goal is to be small or large
abbrev pub sense_in : Option Goal → model.Sense
sense_in None = model.minimise
sense_in (Some g) = sense_of g.sense

module _ (words : List (List ℕ)) where
  -- the word of this number
  abbrev pub word_of : ℕ → List ℕ
  word_of k = get_or words k []

  -- the parameter that a statement declares, if it does
  abbrev pub parameters : Statement → List model.Parameter
  parameters (parsed.Uncertain d) =
      record { name = word_of d.name; lower = lower_bound d.bounds; upper = upper_bound d.bounds } ∷ []
  parameters _ = []

  -- the set that a statement declares, if it does
  abbrev pub sets : Statement → List (List ℕ)
  sets (parsed.Over k) = word_of k ∷ []
  sets _ = []

  -- the variable
  abbrev pub variables : Statement → List model.Variable
  variables (parsed.Var d) =
      record { name = word_of d.name; lower = lower_bound d.bounds; upper = upper_bound d.bounds } ∷ []
  variables _ = []

module _ (words : List (List ℕ)) (sorts : List (Option Sort)) where
  -- the adaptive variable
  abbrev pub adaptives : Statement → List model.AdaptiveVariable
  adaptives (parsed.Adaptive p) =
      record {
        name = word_of words p.name;
        on = map (parameter_at sorts) p.on;
        lower = lower_bound p.bounds;
        upper =
            upper_bound p.bounds;
      } ∷ []
  adaptives _ = []

  -- the row
  abbrev pub rows : Statement → List model.Row
  rows (parsed.Row r) =
      record {
        name = word_of words r.name;
        left = expression sorts (tree_of r.relation.left);
        relation = relation_of r.relation.rel;
        right = expression sorts (tree_of r.relation.right);
      } ∷ []
  rows _ = []

  -- what some statements write, where this is what names stand for: a model over the written parameters, without sets
  abbrev pub written_of : List Statement → model.RobustModel
  written_of list = record {
    parameters = flat_map (parameters words) list;
    sets = [];
    set_lines = flat_map (set_lines sorts) list;
    line_sets = [];
    variables = flat_map (variables words) list;
    adaptives = flat_map adaptives list;
    sense = sense_in (goal_in list);
    objective = objective_of sorts (goal_in list);
    objective_set = 0;
    rows = flat_map rows list;
    row_sets = [];
  }
