use Rattle.rob_table.proofs.Places.{row_inside}
use Rattle.rob_table.proofs.RowMoves.{exchanged_bounds}
use Rattle.rob_table.proofs.row_moves.exchange_rows.Goals as goal

pub exchange_entries-requires-clause-a_in : goal.exchange_entries-requires-clause-a_in
exchange_entries-requires-clause-a_in g c = row_inside c.args.width c.args.a c.requires.a_in c.requires.size

pub exchange_entries-requires-clause-b_in : goal.exchange_entries-requires-clause-b_in
exchange_entries-requires-clause-b_in g c = row_inside c.args.width c.args.b c.requires.b_in c.requires.size

pub returns-clause-bounded : goal.returns-clause-bounded
returns-clause-bounded g c limit h =
    exchanged_bounds limit c.args.width c.args.rows.now c.args.bounds.now h c.args.a c.args.b c.requires.a_in
    c.requires.b_in c.exchange_entries.new.rows c.exchange_bounds.new.bounds c.exchange_entries.ensures.size
    c.exchange_bounds.ensures.exchanged c.exchange_entries.ensures.rows
