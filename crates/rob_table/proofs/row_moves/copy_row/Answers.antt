use Rattle.std.proofs.Common.{get_or, refl, set}
use Rattle.rob_table.proofs.Places.{row_inside}
use Rattle.rob_table.proofs.RowMoves.{copied_bounds}
use Rattle.rob_table.proofs.row_moves.copy_row.Goals as goal

pub copy_entries-requires-clause-from_in : goal.copy_entries-requires-clause-from_in
copy_entries-requires-clause-from_in g c = row_inside c.args.width c.args.from c.requires.from_in c.requires.size

pub copy_entries-requires-clause-to_in : goal.copy_entries-requires-clause-to_in
copy_entries-requires-clause-to_in g c = row_inside c.args.width c.args.to c.requires.to_in c.requires.size

pub returns-clause-bounded : goal.returns-clause-bounded
returns-clause-bounded g c limit h =
    copied_bounds limit c.args.width c.args.rows.now c.copy_entries.new.rows c.args.bounds.now
    (set c.args.bounds.now c.args.to (get_or c.args.bounds.now c.args.from 0)) c.args.from c.args.to h
    c.copy_entries.ensures.size c.requires.from_in c.requires.to_in refl c.copy_entries.ensures.row
    c.copy_entries.ensures.others
