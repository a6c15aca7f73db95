use Rattle.rob_rows.proofs.PrimitivePartLemmas.{primitive_part_exists, primitive_part_unique}
use Rattle.rob_rows.proofs.Pivots.{pivot_row}
use Rattle.rob_rows.proofs.laws.primitive_part_laws.Goals as goal

pub returns : goal.returns
returns c = record { exists = primitive_part_exists; unique = primitive_part_unique; pivot = pivot_row }
