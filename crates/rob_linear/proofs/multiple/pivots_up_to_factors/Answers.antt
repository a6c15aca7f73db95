use Rattle.rob_linear.proofs.RowForms.Multiples.{cleared_row, multiple_pivot, multiple_turn}
use Rattle.rob_linear.proofs.multiple.pivots_up_to_factors.Goals as goal

pub returns : goal.returns
returns c = record {
  row = cleared_row;
  rows = multiple_pivot;
  turn = multiple_turn;
}
