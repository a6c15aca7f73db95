use Rattle.rob_linear.proofs.KeptOut.WithoutColumn.{slacks_without, enters_without, leaves_without, cleared_without, parallel_without}
use Rattle.rob_linear.proofs.first_phase.rows_without_the_column.Goals as goal

pub returns : goal.returns
returns c = record {
  start = slacks_without;
  enters = enters_without;
  leaves = leaves_without;
  cleared = cleared_without;
  parallel = parallel_without;
}
