-- What the statements in front of a line, or of a statement, say: what each name stands for, what is counted, and
-- whether a goal stands there.
use Rattle.std.specs.Prelude.{ℕ, ◌+◌, Bool, true, false, List, [], ◌∷◌, set, replicate, Option, Some, None, if◌then◌else◌}
use Rattle.rob_rules.specs.declared.sort.Sort.{Sort}
use Rattle.rob_rules.specs.declared.sort.Sort.TheVariants as sort
use Rattle.rob_rules.specs.declared.sort.Sort.TheVariants.{Parameter, Decision, Policy, RowName}
use Rattle.rob_rules.specs.declared.size.Sizes.{Sizes}
use Rattle.rob_rules.specs.declared.scope.Scope.{Scope}
use Rattle.rob_syntax.specs.declared.syntax.Statement.{Statement}
use Rattle.rob_syntax.specs.declared.syntax.Statement.TheVariants.{Uncertain, Over, Set, Budget, Var, Adaptive, Goal, Row}
use Rattle.rob_rules.specs.Sizes.{start_sizes, counted}

-- what is known in front of a line, or of a statement
pub record Earlier : Type 0 where
  pub sorts : List (Option Sort)
  pub sizes : Sizes
  pub goal : Bool

-- what the code keeps of it
abbrev pub earlier_of : Scope → Earlier
earlier_of s = record { sorts = s.sorts.items; sizes = s.sizes; goal = s.goal }

-- in front of the first line no name is declared
abbrev pub start : ℕ → Earlier
start words = record { sorts = replicate words None; sizes = start_sizes; goal = false }

-- whether a list has an item
abbrev pub has_some : List ℕ → Bool
has_some [] = false
has_some (k ∷ ks) = true

-- the name that a statement declares, if it does, and what it stands for: names of a kind are numbered in order, from
-- 0, and sets from 1, since the default set is number 0
abbrev pub declared_by : Sizes → Statement → Option (ℕ × Sort)
declared_by sizes (Uncertain d) = Some (d.name, Parameter sizes.parameters)
declared_by sizes (Over k) = Some (k, sort.Set (sizes.sets + 1))
declared_by sizes (Var d) = Some (d.name, Decision sizes.variables)
declared_by sizes (Adaptive p) = Some (p.name, Policy sizes.adaptives (has_some p.on))
declared_by sizes (Row r) = Some (r.name, RowName)
declared_by sizes (Set _) = None
declared_by sizes (Budget _) = None
declared_by sizes (Goal _) = None

-- the names behind a declaration
abbrev pub declare : List (Option Sort) → Option (ℕ × Sort) → List (Option Sort)
declare sorts None = sorts
declare sorts (Some d) = set sorts d.0 (Some d.1)

-- a goal stands behind the statement
abbrev pub is_goal : Statement → Bool
is_goal (Goal _) = true
is_goal _ = false

-- what is known behind a statement
abbrev pub behind : Earlier → Statement → Earlier
behind e s = record {
  sorts = declare e.sorts (declared_by e.sizes s);
  sizes = counted e.sizes s;
  goal = if is_goal s then true else e.goal;
}
