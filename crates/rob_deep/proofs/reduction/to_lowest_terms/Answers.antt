use Rattle.rob_rows.proofs.Reductions.{no_wide_part}
use Rattle.rob_deep.proofs.reduction.to_lowest_terms.Goals as goal

pub unreachable-requires : goal.unreachable-requires
unreachable-requires c = no_wide_part c.args.limit c.args.row.now c.requires.within c.in-Err.ensures.wide
