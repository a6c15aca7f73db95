-- The lists of names in groups: the names that one row, one variable, one parameter or one statement has.
use Rattle.std.specs.Prelude.{ℕ, suc, List, [], ◌∷◌, ◌++◌, map, codes, length, option_map}
use Rattle.rob_algebra.specs.Fraction.{Fraction}
use Rattle.rob_meaning.specs.Names.{Name, column_names, form_names, set_row_names}
use Rattle.rob_model.specs.GroupNames.{bound_names, side_names, rule_names, statement_row_names, lift_names, condition_names}
use Rattle.rob_meaning.specs.RobustModel.{Parameter, Variable, AdaptiveVariable, Row, SetLine, line, budget, RobustModel}
use Rattle.rob_model.specs.Naming.{parameter_names, set_place_names}
use Rattle.rob_model.specs.View.{relation_of, parameter_of, adaptive_of, set_line_of}
use Rattle.rob_model.specs.declared.group.Group.{Group}
use Rattle.rob_model.specs.declared.group.Group.TheVariants.{Single, Sides, Bounds, Rule, StatementRows, Condition, Lifts}
use Rattle.rob_model.specs.declared.group.Kind.{Kind}
use Rattle.rob_model.specs.declared.group.Kind.TheVariants.{Form, Column, SetRow, SetPlace, Parameters}

-- the names of a group
abbrev pub names_in : {N : Type 0} → (N → Fraction) → Group N → List Name
names_in value (Single name) = name.now ∷ []
names_in value (Sides name rel) = side_names (relation_of rel) name.now
names_in value (Bounds name lower upper) = bound_names name.now (option_map value lower.now)
    (option_map value upper.now)
names_in value (Rule rule params) = rule_names (map (parameter_of value) params.now) (adaptive_of value rule.now)
names_in value (StatementRows statement number params) =
    statement_row_names (map (parameter_of value) params.now) number (set_line_of value statement.now)
names_in value (Condition statement number) = condition_names number (set_line_of value statement.now)
names_in value (Lifts statement number params) =
    lift_names (map (parameter_of value) params.now) number (set_line_of value statement.now)

-- the number of members of a statement's budget
abbrev pub member_count : SetLine → ℕ
member_count (line left relation right) = 0
member_count (budget limit members) = length members

-- all names of a list of groups
abbrev pub together : List (List Name) → List Name
together [] = []
together (group ∷ groups) = group ++ together groups

-- the groups of statements, the first being the n-th
abbrev pub groups_by_number : (ℕ → SetLine → List Name) → ℕ → List SetLine → List (List Name)
groups_by_number names n [] = []
groups_by_number names n (c ∷ cs) = names n c ∷ groups_by_number names (suc n) cs

-- ---- the groups of rows, of bounds, of parameters and of statements
abbrev pub row_groups : RobustModel → List (List Name)
row_groups m = map (λ (r : Row). side_names r.relation r.name) m.rows

-- the names of the forms of each variable's declared bounds
abbrev pub variable_bound_groups : RobustModel → List (List Name)
variable_bound_groups m = map (λ (x : Variable). bound_names x.name x.lower x.upper) m.variables

-- the names of the forms of each adaptive variable's declared bounds
abbrev pub adaptive_bound_groups : RobustModel → List (List Name)
adaptive_bound_groups m = map (λ (y : AdaptiveVariable). bound_names y.name y.lower y.upper) m.adaptives

-- the names of the set rows of each joint parameter's declared bounds
abbrev pub parameter_bound_groups : RobustModel → List (List Name)
parameter_bound_groups m = map (λ (d : Parameter). bound_names d.name d.lower d.upper) m.parameters

-- the name of each joint parameter
abbrev pub parameter_groups : RobustModel → List (List Name)
parameter_groups m = map (λ (d : Parameter). d.name ∷ []) m.parameters

-- the name of each statement's set condition
abbrev pub condition_groups : RobustModel → List (List Name)
condition_groups m = groups_by_number condition_names 1 m.set_lines

-- the names of the columns of each budget's members
abbrev pub lift_groups : RobustModel → List (List Name)
lift_groups m = groups_by_number (lift_names m.parameters) 1 m.set_lines

-- the groups of names of a kind
abbrev pub groups : Kind → RobustModel → List (List Name)
groups Form m = (codes "objective" ∷ []) ∷ (row_groups m ++ (variable_bound_groups m ++ adaptive_bound_groups m))
groups Column m = map (λ (x : Variable). x.name ∷ []) m.variables ++ map (rule_names m.parameters) m.adaptives
groups SetRow m = parameter_bound_groups m ++ groups_by_number (statement_row_names m.parameters) 1 m.set_lines
groups SetPlace m = parameter_bound_groups m ++ (condition_groups m ++ (parameter_groups m ++ lift_groups m))
groups Parameters m = parameter_groups m

-- the names of a kind, in order
abbrev pub names : Kind → RobustModel → List Name
names Form m = form_names m
names Column m = column_names m
names SetRow m = set_row_names m
names SetPlace m = set_place_names m
names Parameters m = parameter_names m
