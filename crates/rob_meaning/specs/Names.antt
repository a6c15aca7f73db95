-- The names by which texts speak of a model's parts, each list in the order of what it names. A name is a list of
-- bytes. Names that are not declared have several parts with dots between them: declared names, words, and a
-- statement's number in decimal digits.
use Rattle.std.specs.Fmt.{decimal}
use Rattle.std.specs.Prelude.{ℕ, zero, suc, List, [], ◌∷◌, ◌++◌, map, flat_map, Option, codes}
use Rattle.rob_algebra.specs.Fraction.{Fraction}
use Rattle.rob_meaning.specs.RobustModel.{Relation, at_most, at_least, equal, Parameter, Variable, AdaptiveVariable, Member, SetLine, line, budget, Row, RobustModel}
use Rattle.rob_meaning.specs.SetConditions.{if_declared}

-- a name
abbrev pub Name : Type 0
Name = List ℕ

-- the parts of a name
abbrev pub Parts : Type 0
Parts = List Name

-- each part behind a dot
abbrev pub behind_dots : Parts → Name
behind_dots [] = []
behind_dots (part ∷ parts) = codes "." ++ (part ++ behind_dots parts)

-- the name that has the parts: they are written with dots between them
abbrev pub joined : Parts → Name
joined [] = []
joined (part ∷ parts) = part ++ behind_dots parts

-- the name of parameter `k`, none past the last
abbrev pub parameter_name : List Parameter → ℕ → Name
parameter_name [] k = []
parameter_name (p ∷ ps) zero = p.name
parameter_name (p ∷ ps) (suc k) = parameter_name ps k

-- the names of declared bounds: `x.lower` and `x.upper`
abbrev pub bound_parts : Name → Option Fraction → Option Fraction → List Parts
bound_parts name lower upper =
    if_declared (λ l. name ∷ codes "lower" ∷ []) lower ++ if_declared (λ b. name ∷ codes "upper" ∷ []) upper

-- the names of a comparison: its own, or for an equality, as `r.le` and `r.ge`, one for each half
abbrev pub side_parts : Relation → Parts → List Parts
side_parts at_most parts = parts ∷ []
side_parts at_least parts = parts ∷ []
side_parts equal parts = (parts ++ codes "le" ∷ []) ∷ (parts ++ codes "ge" ∷ []) ∷ []

-- ---- decision columns

-- the names of a decision rule's columns: `y` for its constant, and `y.d` for its coefficient of parameter d
abbrev pub rule_parts : List Parameter → AdaptiveVariable → List Parts
rule_parts ps y = (y.name ∷ []) ∷ map (λ d. y.name ∷ parameter_name ps d ∷ []) y.on

-- the decision columns
abbrev pub column_parts : RobustModel → List Parts
column_parts m =
    map (λ (x : Variable). x.name ∷ []) m.variables ++ flat_map (rule_parts m.parameters) m.adaptives

-- the names of the decision columns
abbrev pub column_names : RobustModel → List Name
column_names m = map joined (column_parts m)

-- the names of the decision columns, and of tau behind them
abbrev pub column_names_with_tau : RobustModel → List Name
column_names_with_tau m = column_names m ++ codes "tau" ∷ []

-- ---- forms

-- the forms: the objective, the rows, the bounds of variables, the bounds of adaptive variables
abbrev pub form_parts : RobustModel → List Parts
form_parts m =
    (codes "objective" ∷ [])
    ∷ (flat_map (λ (r : Row). side_parts r.relation (r.name ∷ [])) m.rows
    ++ (flat_map (λ (x : Variable). bound_parts x.name x.lower x.upper) m.variables
    ++ flat_map (λ (y : AdaptiveVariable). bound_parts y.name y.lower y.upper) m.adaptives))

-- the names of the forms
abbrev pub form_names : RobustModel → List Name
form_names m = map joined (form_parts m)

-- ---- the uncertainty set

-- the declared bounds of the parameters
abbrev pub parameter_bound_parts : List Parameter → List Parts
parameter_bound_parts ps = flat_map (λ (p : Parameter). bound_parts p.name p.lower p.upper) ps

module _ (ps : List Parameter) where
  -- the two rows of a member of budget n: `budget.n.d.up` and `budget.n.d.down`
  abbrev pub member_parts : ℕ → Member → List Parts
  member_parts n h =
      (codes "budget" ∷ decimal n ∷ parameter_name ps h.parameter ∷ codes "up" ∷ [])
      ∷ (codes "budget" ∷ decimal n ∷ parameter_name ps h.parameter ∷ codes "down" ∷ []) ∷ []

  -- the rows of statement n: `set.n`, or `set.n.le` and `set.n.ge`; those of a budget's members, and `budget.n.sum`
  abbrev pub statement_parts : ℕ → SetLine → List Parts
  statement_parts n (line left relation right) = side_parts relation (codes "set" ∷ decimal n ∷ [])
  statement_parts n (budget limit members) =
      flat_map (member_parts n) members ++ (codes "budget" ∷ decimal n ∷ codes "sum" ∷ []) ∷ []

  -- the columns t of statement n: `t.n.d` for each member
  abbrev pub lift_parts : ℕ → SetLine → List Parts
  lift_parts n (line left relation right) = []
  lift_parts n (budget limit members) =
      map (λ (h : Member). codes "t" ∷ decimal n ∷ parameter_name ps h.parameter ∷ []) members

-- statement n as a condition: `set.n` or `budget.n`
abbrev pub condition_parts : ℕ → SetLine → List Parts
condition_parts n (line left relation right) = (codes "set" ∷ decimal n ∷ []) ∷ []
condition_parts n (budget limit members) = (codes "budget" ∷ decimal n ∷ []) ∷ []

-- what a list of statements has, each by its number, the first being statement n
abbrev pub by_number : (ℕ → SetLine → List Parts) → ℕ → List SetLine → List Parts
by_number parts n [] = []
by_number parts n (c ∷ cs) = parts n c ++ by_number parts (suc n) cs

-- the names of the set rows; set lines and budgets are counted together, from 1
abbrev pub set_row_names : RobustModel → List Name
set_row_names m =
    map joined (parameter_bound_parts m.parameters ++ by_number (statement_parts m.parameters) 1 m.set_lines)

-- the names of the set columns: those of the parameters, then those of the columns t
abbrev pub set_column_names : RobustModel → List Name
set_column_names m =
    map joined
    (map (λ (p : Parameter). p.name ∷ []) m.parameters ++ by_number (lift_parts m.parameters) 1 m.set_lines)

-- the names of the set conditions
abbrev pub set_condition_names : RobustModel → List Name
set_condition_names m =
    map joined (parameter_bound_parts m.parameters ++ by_number condition_parts 1 m.set_lines)
