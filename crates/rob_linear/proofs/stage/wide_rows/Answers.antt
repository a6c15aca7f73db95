use Rattle.rob_linear.proofs.CostChange.WideRows.{wide_in_rows, rows_wide_in, rows_at_hand, first_at_hand, second_at_hand}
use Rattle.rob_linear.proofs.stage.wide_rows.Goals as goal

pub returns : goal.returns
returns c = record {
  shown = rows_wide_in;
  only = wide_in_rows;
  at_hand = rows_at_hand;
  first_phase = first_at_hand;
  second_phase = second_at_hand;
}
