use Rattle.std.proofs.Common.{arith}
use Rattle.rob_rows.proofs.PrimitivePartLemmas.{part_itself}
use Rattle.rob_rows.proofs.reduction.reduce.Goals as goal

pub returns-then-is_within-clause-part : goal.returns-then-is_within-clause-part
returns-then-is_within-clause-part c = part_itself c.args.row.now (omega arith)

pub returns-else-is_within-clause-wide : goal.returns-else-is_within-clause-wide
returns-else-is_within-clause-wide c =
    (c.args.row.now, part_itself c.args.row.now (omega arith), c.if-is_within.ensures.wide)
