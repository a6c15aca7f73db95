use Rattle.rob_linear.proofs.RowForms.CondensedNumbers.{entry_times, entry_primitive, entry_within, primitive_without}
use Rattle.rob_linear.proofs.condensed.condensed_numbers.Goals as goal

pub returns : goal.returns
returns c = record {
  times = entry_times;
  primitive = entry_primitive;
  within = entry_within;
  without = primitive_without;
}
