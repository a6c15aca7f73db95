use Rattle.rob_bounds.proofs.RowBounds.{row_within, before_within, objective_amount}
use Rattle.rob_bounds.proofs.rows.rows_of_a_basis.Goals as goal

pub returns : goal.returns
returns c = record {
  rows = row_within;
  before = before_within;
  amounts = objective_amount;
}
