use Rattle.rob_linear.proofs.KeptOut.BesideColumns.{holds_start, holds_stands, holds_turn, holds_leaves, multiples_same}
use Rattle.rob_linear.proofs.first_phase.turn_by_columns.Goals as goal

pub returns : goal.returns
returns c = record {
  start = holds_start;
  stands = holds_stands;
  stays = holds_turn;
  leaves = holds_leaves;
  same = multiples_same;
}
