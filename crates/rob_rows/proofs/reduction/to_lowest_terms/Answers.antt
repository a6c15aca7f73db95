use Rattle.std.proofs.Common.{arith}
use Rattle.rob_rows.proofs.PrimitivePartLemmas.{part_itself}
use Rattle.rob_rows.proofs.Reductions.{no_wide_part}
use Rattle.rob_rows.proofs.reduction.to_lowest_terms.Goals as goal

pub unreachable-requires : goal.unreachable-requires
unreachable-requires c = no_wide_part c.args.limit c.args.row.now c.requires.within c.in-Err.ensures.wide

pub returns-then-value-le1-clause-part : goal.returns-then-value-le1-clause-part
returns-then-value-le1-clause-part c = part_itself c.args.row.now (omega arith)
