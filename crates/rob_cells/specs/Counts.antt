-- How large a model is, by its parts.
use Rattle.std.specs.Prelude.{◌≡◌, ◌<◌, ◌^◌, length}
use Rattle.rob_cells.specs.declared.size.Counts.{Counts}
use Rattle.rob_meaning.specs.Forms.{forms}
use Rattle.rob_meaning.specs.RobustModel.{RobustModel, column_count}
use Rattle.rob_meaning.specs.SetRows.{lift_count, set_rows}

-- these are the counts of the model's parts
pub record AreCountsOf (m : RobustModel) (counts : Counts) : Type 0 where
  pub parameters : counts.parameters ≡ length m.parameters
  pub columns : counts.columns ≡ column_count m
  pub rows : counts.rows ≡ length m.rows
  pub set_lines : counts.set_lines ≡ length m.set_lines
  pub members : counts.members ≡ lift_count m.set_lines
  pub forms : counts.forms ≡ length (forms m)
  pub set_rows : counts.set_rows ≡ length (set_rows m)

-- each count is below 2 ^ 20
pub record AreSmall (counts : Counts) : Type 0 where
  pub parameters : counts.parameters < 2 ^ 20
  pub columns : counts.columns < 2 ^ 20
  pub rows : counts.rows < 2 ^ 20
  pub set_lines : counts.set_lines < 2 ^ 20
  pub members : counts.members < 2 ^ 20
  pub forms : counts.forms < 2 ^ 20
  pub set_rows : counts.set_rows < 2 ^ 20
