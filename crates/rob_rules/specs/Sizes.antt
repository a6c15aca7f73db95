-- How large a model is, counted statement by statement and by its parts, and whether it passes no limit.
use Rattle.std.specs.Prelude.{◌≡◌, ℕ, ◌+◌, ◌*◌, ◌<◌, ◌≤◌, ◌^◌, Bool, true, ◌&&◌, nat_le, length, Option, Some, None}
use Rattle.rob_meaning.specs.Forms.{forms}
use Rattle.rob_meaning.specs.RobustModel.{RobustModel, column_count}
use Rattle.rob_meaning.specs.SetRows.{lift_count, set_rows}
use Rattle.rob_model.specs.Limits.{most_sets, most_parameters, most_columns, most_rows, most_set_lines, most_members, most_size, model_size}
use Rattle.rob_rules.specs.declared.size.Sizes.{Sizes}
use Rattle.rob_syntax.specs.declared.syntax.Bounds.{Bounds}
use Rattle.rob_syntax.specs.declared.syntax.Bounds.TheVariants.{Between, AtLeast, AtMost}
use Rattle.rob_syntax.specs.declared.syntax.Rel.{Rel}
use Rattle.rob_syntax.specs.declared.syntax.Rel.TheVariants as rel
use Rattle.rob_syntax.specs.declared.syntax.Statement.{Statement}
use Rattle.rob_syntax.specs.declared.syntax.Statement.TheVariants.{Uncertain, Over, Set, Budget, Var, Adaptive, Goal, Row}

-- how many bounds there are
abbrev pub bound_count : Option Bounds → ℕ
bound_count None = 0
bound_count (Some (Between _)) = 2
bound_count (Some (AtLeast _)) = 1
bound_count (Some (AtMost _)) = 1

-- how many inequalities a relation is
abbrev pub rel_count : Rel → ℕ
rel_count rel.AtMost = 1
rel_count rel.AtLeast = 1
rel_count rel.Equal = 2

-- in front of the first line the objective is counted
abbrev pub start_sizes : Sizes
start_sizes =
    record {
      parameters = 0;
      bounds = 0;
      sets = 0;
      variables = 0;
      adaptives = 0;
      columns = 0;
      rows = 0;
      set_lines =
          0;
      members = 0;
      forms = 1;
      set_rows = 0;
    }

-- the sizes behind one more statement
abbrev pub counted : Sizes → Statement → Sizes
counted s (Uncertain d) = record s { parameters = s.parameters + 1; bounds = s.bounds + bound_count d.bounds }
counted s (Over k) = record s { sets = s.sets + 1 }
counted s (Var d) =
    record s { variables = s.variables + 1; columns = s.columns + 1; forms = s.forms + bound_count d.bounds }
counted s (Adaptive p) =
    record s {
      adaptives = s.adaptives + 1;
      columns = s.columns + (1 + length p.on);
      forms =
          s.forms + bound_count p.bounds;
    }
counted s (Set r) = record s { set_lines = s.set_lines + 1; set_rows = s.set_rows + rel_count r.rel }
counted s (Budget b) =
    record s {
      set_lines = s.set_lines + 1;
      members = s.members + length b.members;
      set_rows =
          s.set_rows + (1 + 2 * length b.members);
    }
counted s (Row r) = record s { rows = s.rows + 1; forms = s.forms + rel_count r.relation.rel }
counted s (Goal g) = s

-- each set has each parameter once, with its bounds: the joint parameters
abbrev pub joint_count : Sizes → ℕ
joint_count s = s.parameters * (s.sets + 1)

-- the size: forms times one more than set rows, those of parameters' bounds in each set among them, and twice the joint
-- parameters and members
abbrev pub size : Sizes → ℕ
size s = s.forms * (((s.bounds * (s.sets + 1) + s.set_rows) + 2 * (joint_count s + s.members)) + 1)

-- these are the counts of a model, and its size; the bounds of parameters are set rows once in each set
pub record AreSizesOf (m : RobustModel) (s : Sizes) : Type 0 where
  pub parameters : joint_count s ≡ length m.parameters
  pub sets : s.sets ≡ length m.sets
  pub variables : s.variables ≡ length m.variables
  pub adaptives : s.adaptives ≡ length m.adaptives
  pub columns : s.columns ≡ column_count m
  pub rows : s.rows ≡ length m.rows
  pub set_lines : s.set_lines ≡ length m.set_lines
  pub members : s.members ≡ lift_count m.set_lines
  pub forms : s.forms ≡ length (forms m)
  pub set_rows : s.bounds * (s.sets + 1) + s.set_rows ≡ length (set_rows m)
  pub size : size s ≡ model_size m

-- no limit is passed
abbrev pub is_within : Sizes → Bool
is_within s =
    nat_le s.sets most_sets && nat_le (joint_count s) most_parameters && nat_le s.columns most_columns && nat_le s.rows
    most_rows
    && nat_le s.set_lines most_set_lines && nat_le s.members most_members && nat_le (size s) most_size

-- the counts leave room for one more statement
pub record IsSmall (s : Sizes) : Type 0 where
  pub parameters : s.parameters < 2 ^ 32
  pub bounds : s.bounds < 2 ^ 32
  pub sets : s.sets < 2 ^ 31
  pub variables : s.variables < 2 ^ 32
  pub adaptives : s.adaptives < 2 ^ 32
  pub columns : s.columns < 2 ^ 32
  pub rows : s.rows < 2 ^ 32
  pub set_lines : s.set_lines < 2 ^ 32
  pub members : s.members < 2 ^ 32
  pub forms : s.forms < 2 ^ 32
  pub set_rows : s.set_rows < 2 ^ 32

-- what the counts keep behind every line without a fault
pub record IsKept (s : Sizes) : Type 0 where
  pub within : is_within s ≡ true
  pub variables : s.variables ≤ s.columns
  pub adaptives : s.adaptives ≤ s.columns
  pub forms : 0 < s.forms
