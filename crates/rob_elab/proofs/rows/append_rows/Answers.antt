use Rattle.std.proofs.Common.{arith}
use Rattle.rob_meaning.specs.RobustModel.{Row}
use Rattle.rob_meaning.specs.WellFormed.{IsExpression}
use Rattle.rob_model.specs.View.{robust, row_of}
use Rattle.rob_number.proofs.CountLemmas.{later}
use Rattle.rob_sets.proofs.Cells.ItemLemmas.{drop_item, drop_over}
use Rattle.rob_algebra.proofs.ListLemmas.{item_inside, item_is}
use Rattle.rob_sets.proofs.Judging.ProgressLemmas.{begins, so_many}
use Rattle.rob_elab.proofs.AppendLemmas.{forms_end, forms_go_on, forms_stop}
use Rattle.rob_elab.proofs.LeftLemmas.{rows_at, rows_end, rows_many}
use Rattle.rob_elab.proofs.rows.append_rows.Goals as goal
use Rattle.rob_meaning.proofs.Lists.EachLemmas.{each_get}

pub loop-row-init : goal.loop-row-init
loop-row-init g c =
    record { progress = begins c.args.matrices.now; counted = record { ops = omega arith; wides = omega arith } }

pub append_sides-requires : goal.append_sides-requires
append_sides-requires g c =
    let value = g.N.Exact.value in
    let m = robust value c.args.model.now in
    let i = c.loop-row.row-index in
    let here = each_get (λ (x : Row). IsExpression m x.left × IsExpression m x.right) (row_of value)
    c.args.model.now.rows i c.row-item.result
    (item_inside i c.items-row-items.ensures.list c.loop-row-test.true)
    (item_is i c.items-row-items.ensures.list c.row-item.is)
    c.requires.valid.well_formed.rows in
    record {
      valid = c.requires.valid;
      left = here.0;
      right = here.1;
      few = omega (
        arith,
        so_many c.loop-row.invariant.progress,
        rows_many m.rows,
        c.requires.valid.limits.rows,
        c.requires.few,
      );
    }

pub returns-in_err-append_sides-clause-forms : goal.returns-in_err-append_sides-clause-forms
returns-in_err-append_sides-clause-forms g c =
    let at = rows_at g.N.Exact.value c.args.model.now.rows c.loop-row.row-index
    (drop_item c.loop-row.row-index c.items-row-items.ensures.list c.loop-row-test.true c.row-item.is) in
    forms_stop c.loop-row.invariant.progress c.append_sides.new.matrices (g.L.Ledger.wides c.args.ledger.now)
    c.from_residual.result at
    c.loop-row.invariant.counted.wides c.in_err-append_sides.ensures.forms c.from_residual.ensures.1

pub loop-row-preserved : goal.loop-row-preserved
loop-row-preserved g c =
    let at = rows_at g.N.Exact.value c.args.model.now.rows c.loop-row.row-index
    (drop_item c.loop-row.row-index c.items-row-items.ensures.list c.loop-row-test.true c.row-item.is) in
    record {
      progress = forms_go_on c.loop-row.invariant.progress at c.in_ok-append_sides.ensures.forms;
      counted = later c.loop-row.invariant.counted c.append_sides.ensures.counted;
    }

pub returns-clause-forms : goal.returns-clause-forms
returns-clause-forms g c =
    let i = c.loop-row.row-index in
    forms_end c.loop-row.invariant.progress
    (rows_end g.N.Exact.value c.args.model.now.rows i
    (drop_over i c.items-row-items.ensures.list c.loop-row-test.false))
