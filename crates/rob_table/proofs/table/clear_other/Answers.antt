use Rattle.std.proofs.Common.{◌∙◌, sym}
use Rattle.rob_linear.specs.Vectors.{at}
use Rattle.rob_table.specs.Tables.{row_at}
use Rattle.rob_table.proofs.Clearing.{keep_row, clear_more}
use Rattle.rob_table.proofs.table.clear_other.Goals as goal

pub returns-then-is_zero-clause-cleared : goal.returns-then-is_zero-clause-cleared
returns-then-is_zero-clause-cleared g c start h =
    keep_row c.args.pivot.width c.args.pivot.row c.args.pivot.place (at c.args.pivot_row.now.entries)
    c.requires.ready.place_in start c.args.i (row_at c.args.rows.now c.args.pivot.width)
    (sym c.get.ensures.entry ∙ c.is_zero.ensures.zero.0 c.if-is_zero.true) h

pub returns-clause-cleared : goal.returns-clause-cleared
returns-clause-cleared g c start h =
    clear_more c.args.pivot.width c.args.pivot.row c.args.pivot.place (at c.args.pivot_row.now.entries)
    c.requires.ready.place_in start c.args.i (row_at c.args.rows.now c.args.pivot.width)
    (row_at c.clear_row.new.rows c.args.pivot.width) c.if-i-pivot.false c.in_ok-clear_row.ensures.cleared
    c.clear_row.ensures.others h
