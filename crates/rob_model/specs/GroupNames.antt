-- The names of one row, one variable, one parameter or one statement, each spelled from its first part on.
use Rattle.std.specs.Fmt.{decimal}
use Rattle.std.specs.Prelude.{ℕ, List, [], ◌∷◌, ◌++◌, map, flat_map, Option, codes}
use Rattle.rob_algebra.specs.Fraction.{Fraction}
use Rattle.rob_meaning.specs.Names.{Name, parameter_name}
use Rattle.rob_meaning.specs.RobustModel.{Relation, at_most, at_least, equal, Parameter, AdaptiveVariable, Member, SetLine, line, budget}
use Rattle.rob_meaning.specs.SetConditions.{if_declared}

-- a name, a dot and a further part
abbrev pub dotted : Name → Name → Name
dotted name part = name ++ (codes "." ++ part)

-- a word, a dot and a number in decimal digits
abbrev pub numbered : Name → ℕ → Name
numbered word n = dotted word (decimal n)

-- the names of declared bounds: `x.lower` and `x.upper`
abbrev pub bound_names : Name → Option Fraction → Option Fraction → List Name
bound_names name lower upper =
    if_declared (λ l. dotted name (codes "lower")) lower ++ if_declared (λ b. dotted name (codes "upper")) upper

-- the name of a comparison, or for an equality, as `r.le` and `r.ge`, those of its halves
abbrev pub side_names : Relation → Name → List Name
side_names at_most name = name ∷ []
side_names at_least name = name ∷ []
side_names equal name = dotted name (codes "le") ∷ dotted name (codes "ge") ∷ []

-- the names of a decision rule's columns: `y` for its constant, and `y.d` for its coefficient of parameter d
abbrev pub rule_names : List Parameter → AdaptiveVariable → List Name
rule_names ps y = y.name ∷ map (λ d. dotted y.name (parameter_name ps d)) y.on

-- the names of the declared bounds of the parameters
abbrev pub parameter_bound_names : List Parameter → List Name
parameter_bound_names ps = flat_map (λ (p : Parameter). bound_names p.name p.lower p.upper) ps

module _ (ps : List Parameter) where
  -- the names of a member's two rows, as `budget.1.d.up` and `budget.1.d.down`, from that of its budget
  abbrev pub member_names : Name → Member → List Name
  member_names of_budget h =
      dotted (dotted of_budget (parameter_name ps h.parameter)) (codes "up")
      ∷ dotted (dotted of_budget (parameter_name ps h.parameter)) (codes "down") ∷ []

  -- the names of the rows of statement n: `set.n`, or `set.n.le` and `set.n.ge`; those of a budget's members, and
  -- `budget.n.sum`
  abbrev pub statement_row_names : ℕ → SetLine → List Name
  statement_row_names n (line left relation right) = side_names relation (numbered (codes "set") n)
  statement_row_names n (budget limit members) =
      flat_map (member_names (numbered (codes "budget") n)) members
      ++ dotted (numbered (codes "budget") n) (codes "sum") ∷ []

  -- the names of the columns t of statement n, as `t.n.d`
  abbrev pub lift_names : ℕ → SetLine → List Name
  lift_names n (line left relation right) = []
  lift_names n (budget limit members) =
      map (λ (h : Member). dotted (numbered (codes "t") n) (parameter_name ps h.parameter)) members

-- the name of statement n as a condition: `set.n` or `budget.n`
abbrev pub condition_names : ℕ → SetLine → List Name
condition_names n (line left relation right) = numbered (codes "set") n ∷ []
condition_names n (budget limit members) = numbered (codes "budget") n ∷ []
