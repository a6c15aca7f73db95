use Rattle.std.proofs.Common.{arith, length, ap}
use Rattle.rob_model.proofs.ColumnLemmas.{column_begins, column_steps}
use Rattle.rob_model.proofs.policy.column_of.Goals as goal

pub loop-earlier-init : goal.loop-earlier-init
loop-earlier-init g c =
    column_begins g.N.Exact.value c.args.model.now (length c.items-column.result.now)
    (ap length c.items-column.ensures.list)

pub overflow_add-column-in-loop-earlier : goal.overflow_add-column-in-loop-earlier
overflow_add-column-in-loop-earlier g c =
    omega (
      arith,
      (column_steps g.N.Exact.value c.args.model.now c.requires.few c.args.adaptive
          c.loop-earlier.earlier-index c.loop-earlier.column
          c.items.result.now c.earlier-item.result c.items-in-loop-earlier.result.now c.items.ensures.list
          c.loop-earlier-test.true c.earlier-item.is
          c.items-in-loop-earlier.ensures.list c.loop-earlier.invariant).1,
    )

pub loop-earlier-preserved : goal.loop-earlier-preserved
loop-earlier-preserved g c =
    (column_steps g.N.Exact.value c.args.model.now c.requires.few c.args.adaptive
    c.loop-earlier.earlier-index c.loop-earlier.column
    c.items.result.now c.earlier-item.result c.items-in-loop-earlier.result.now c.items.ensures.list
    c.loop-earlier-test.true c.earlier-item.is
    c.items-in-loop-earlier.ensures.list c.loop-earlier.invariant).0
