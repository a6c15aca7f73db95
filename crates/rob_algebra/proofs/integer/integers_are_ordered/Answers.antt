use Rattle.rob_algebra.specs.IntegerOrder.{le_total, le_antisym, le_trans_z, add_mono, mul_mono, cancel_le}
use Rattle.rob_algebra.proofs.integer.integers_are_ordered.Goals as goal

pub returns : goal.returns
returns c = record {
  total = le_total;
  antisymmetric = le_antisym;
  transitive = le_trans_z;
  sums = add_mono;
  products = mul_mono;
  cancel = cancel_le;
}
