-- How large a model may be, so that its counts fit machine numbers and its solving fits a machine.
use Rattle.std.specs.Prelude.{ℕ, ◌+◌, ◌*◌, ◌≤◌, length}
use Rattle.rob_meaning.specs.Forms.{forms}
use Rattle.rob_meaning.specs.RobustModel.{RobustModel, column_count}
use Rattle.rob_meaning.specs.SetRows.{lift_count, set_rows}

-- the parameters that a model may have
abbrev pub most_parameters : ℕ
most_parameters = 96

-- the named sets that a model may have
abbrev pub most_sets : ℕ
most_sets = 8

-- the decision columns that a model may have
abbrev pub most_columns : ℕ
most_columns = 600

-- the row statements that a model may have
abbrev pub most_rows : ℕ
most_rows = 300

-- the set statements and budgets that a model may have together
abbrev pub most_set_lines : ℕ
most_set_lines = 64

-- the members that all budgets may have together
abbrev pub most_members : ℕ
most_members = 64

-- the size that a model may have
abbrev pub most_size : ℕ
most_size = 12000

-- the size of a model: its forms times the sum of its set rows, twice its joint parameters and members, and one, which
-- is how many rows and multipliers its robust counterpart has together
abbrev pub model_size : RobustModel → ℕ
model_size m = length (forms m) * (length (set_rows m) + 2 * (length m.parameters + lift_count m.set_lines) + 1)

-- few enough joint parameters, named sets, decision columns, row statements, set statements, and members of all budgets
-- together; and not too large
pub record IsWithinLimits (m : RobustModel) : Type 0 where
  pub parameters : length m.parameters ≤ most_parameters
  pub sets : length m.sets ≤ most_sets
  pub columns : column_count m ≤ most_columns
  pub rows : length m.rows ≤ most_rows
  pub set_lines : length m.set_lines ≤ most_set_lines
  pub members : lift_count m.set_lines ≤ most_members
  pub size : model_size m ≤ most_size
