use Rattle.rob_table.proofs.Clearing.{rows_apart}
use Rattle.rob_simplex.proofs.Rows.RowEdits.{kept_bounds}
use Rattle.rob_simplex.proofs.row_edits.reduce_row.Goals as goal

pub returns-clause-row : goal.returns-clause-row
returns-clause-row g c = (c.reduce.ensures.row.times, c.reduce.ensures.row.positive, c.reduce.ensures.row.entries)

pub returns-clause-others : goal.returns-clause-others
returns-clause-others g c = rows_apart c.args.rows.now c.reduce.new.self c.args.width c.args.i c.reduce.ensures.others

pub returns-clause-bounded : goal.returns-clause-bounded
returns-clause-bounded g c =
    kept_bounds g.E.Entry.top c.args.width c.args.rows.now c.reduce.new.self c.args.bounds.now c.args.i
    c.requires.bounded c.reduce.ensures.size c.reduce.ensures.bounded
    (rows_apart c.args.rows.now c.reduce.new.self c.args.width c.args.i c.reduce.ensures.others)
