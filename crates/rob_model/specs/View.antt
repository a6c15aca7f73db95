-- What the program's data stand for: models, expressions, plans and scenarios over fractions of any size.
-- `value` tells the fraction of a number.
use Rattle.std.specs.Prelude.{List, [], ◌∷◌, map, Bool, option_map}
use Rattle.rob_algebra.specs.Fraction.{Fraction}
use Rattle.rob_meaning.specs.Expressions.{Expression, number, parameter, variable, adaptive, adaptive_in, sum, product, Terms, no_terms, term, Factors, no_factors, factor}
use Rattle.rob_meaning.specs.RobustModel as meaning
use Rattle.rob_model.specs.declared.expr.Expr.{Expr, Expr-F, fold-Expr}
use Rattle.rob_model.specs.declared.expr.Term.{Term, Term-F, fold-Term}
use Rattle.rob_model.specs.declared.model.Adaptive.{Adaptive}
use Rattle.rob_model.specs.declared.model.Member.{Member}
use Rattle.rob_model.specs.declared.model.Model.{Model}
use Rattle.rob_model.specs.declared.model.Param.{Param}
use Rattle.rob_model.specs.declared.model.Rel.{Rel}
use Rattle.rob_model.specs.declared.model.Rel.TheVariants.{AtMost, AtLeast, Equal}
use Rattle.rob_model.specs.declared.model.RowDef.{RowDef}
use Rattle.rob_model.specs.declared.model.Sense.{Sense}
use Rattle.rob_model.specs.declared.model.Sense.TheVariants.{Minimise, Maximise}
use Rattle.rob_model.specs.declared.model.SetLine.{SetLine}
use Rattle.rob_model.specs.declared.model.SetLine.TheVariants.{Line, Budget}
use Rattle.rob_model.specs.declared.model.Var.{Var}
use Rattle.rob_model.specs.declared.plan.Plan.{Plan}
use Rattle.rob_model.specs.declared.plan.Scenario.{Scenario}

-- the sense that a `Sense` is
abbrev pub sense_of : Sense → meaning.Sense
sense_of Minimise = meaning.minimise
sense_of Maximise = meaning.maximise

-- the relation that a `Rel` is
abbrev pub relation_of : Rel → meaning.Relation
relation_of AtMost = meaning.at_most
relation_of AtLeast = meaning.at_least
relation_of Equal = meaning.equal

-- an expression with its sign
abbrev pub Signed : Type 0
Signed = Bool × Expression

-- the terms of a sum, from a list of them
abbrev pub terms_of : List Signed → Terms
terms_of [] = no_terms
terms_of (t ∷ ts) = term t.0 t.1 (terms_of ts)

-- the factors of a product, from a list of them
abbrev pub factors_of : List Expression → Factors
factors_of [] = no_factors
factors_of (f ∷ fs) = factor f (factors_of fs)

module _ {N : Type 0} (value : N → Fraction) where
  -- one level of an expression, what is inside being seen already
  abbrev pub expression_step : Expr-F N Expression Signed → Expression
  expression_step (Expr-F.Number x) = number (value x)
  expression_step (Expr-F.Param k) = parameter k
  expression_step (Expr-F.Var k) = variable k
  expression_step (Expr-F.Adaptive k) = adaptive k
  expression_step (Expr-F.AdaptiveIn k set) = adaptive_in k set
  expression_step (Expr-F.Sum ts) = sum (terms_of ts)
  expression_step (Expr-F.Product fs) = product (factors_of fs)

  -- a part of a sum with its sign, its expression being there already
  abbrev pub signed_step : Term-F N Expression Signed → Signed
  signed_step t = (t.minus, t.inner)

  -- the expression that an `Expr` is
  abbrev pub expression_of : Expr N → Expression
  expression_of = fold-Expr N Expression Signed expression_step signed_step

  -- a part of a sum, with its sign
  abbrev pub signed_of : Term N → Signed
  signed_of = fold-Term N Expression Signed expression_step signed_step

  -- the parameter that a `Param` is
  abbrev pub parameter_of : Param N → meaning.Parameter
  parameter_of p = record { name = p.name; lower = option_map value p.lower; upper = option_map value p.upper }

  -- the variable that a `Var` is
  abbrev pub variable_of : Var N → meaning.Variable
  variable_of x = record { name = x.name; lower = option_map value x.lower; upper = option_map value x.upper }

  -- the adaptive variable that an `Adaptive` is
  abbrev pub adaptive_of : Adaptive N → meaning.AdaptiveVariable
  adaptive_of y = record {
    name = y.name;
    on = y.on;
    lower = option_map value y.lower;
    upper = option_map value y.upper;
  }

  -- the member that a `Member` is
  abbrev pub member_of : Member N → meaning.Member
  member_of h = record { parameter = h.param; centre = value h.centre; deviation = value h.deviation }

  -- the statement on a set that a `SetLine` is
  abbrev pub set_line_of : SetLine N → meaning.SetLine
  set_line_of (Line left rel right) = meaning.line (expression_of left) (relation_of rel) (expression_of right)
  set_line_of (Budget limit members) = meaning.budget (value limit) (map member_of members)

  -- the row that a `RowDef` is
  abbrev pub row_of : RowDef N → meaning.Row
  row_of r = record {
    name = r.name;
    left = expression_of r.left;
    relation = relation_of r.rel;
    right = expression_of r.right;
  }

  -- the model that a `Model` is
  abbrev pub robust : Model N → meaning.RobustModel
  robust m = record {
    parameters = map parameter_of m.params;
    sets = m.sets;
    set_lines = map set_line_of m.set_lines;
    line_sets = m.line_sets;
    variables = map variable_of m.vars;
    adaptives = map adaptive_of m.adaptives;
    sense = sense_of m.sense;
    objective = expression_of m.objective;
    objective_set = m.objective_set;
    rows = map row_of m.rows;
    row_sets = m.row_sets;
  }

  -- the numbers of a plan's columns
  abbrev pub plan_of : Plan N → List Fraction
  plan_of plan = map value plan.columns

  -- the numbers of a scenario's parameters
  abbrev pub scenario_of : Scenario N → List Fraction
  scenario_of scenario = map value scenario.values
