use Rattle.rob_table.proofs.Clearing.{rows_apart}
use Rattle.rob_simplex.proofs.Rows.RowEdits.{negated_bounds}
use Rattle.rob_simplex.proofs.row_edits.negate_row.Goals as goal

pub returns-clause-others : goal.returns-clause-others
returns-clause-others g c = rows_apart c.args.rows.now c.negate.new.self c.args.width c.args.i c.negate.ensures.others

pub returns-clause-bounded : goal.returns-clause-bounded
returns-clause-bounded g c =
    negated_bounds g.E.Entry.top c.args.width c.args.rows.now c.negate.new.self c.args.bounds.now c.args.i
    c.requires.bounded c.negate.ensures.size c.negate.ensures.row
    (rows_apart c.args.rows.now c.negate.new.self c.args.width c.args.i c.negate.ensures.others)
