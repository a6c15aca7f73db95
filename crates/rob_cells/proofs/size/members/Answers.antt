use Rattle.std.proofs.Common.{◌+◌, map, drop, ap, ◌∙◌, arith}
use Rattle.rob_meaning.specs.SetRows.{lift_count}
use Rattle.rob_model.specs.View.{set_line_of}
use Rattle.rob_cells.proofs.SizeLemmas.{budget_more, line_more}
use Rattle.rob_cells.proofs.size.members.Goals.{in-Budget, in_default}
use Rattle.rob_cells.proofs.size.members.Goals as goal

pub overflow_add-count : goal.overflow_add-count
overflow_add-count g c =
    omega (
      arith,
      budget_more g.N.Exact.value c.args.lines.now c.loop-line.line-index c.line-item.result c.loop-line.count
          c.loop-line-test.true c.line-item.is c.loop-line.invariant c.in-Budget.is c.items.ensures.list,
      c.requires.few,
    )

pub loop-line-preserved : goal.loop-line-preserved
loop-line-preserved g c =
    let value = g.N.Exact.value in
    let rest = lift_count (map (set_line_of value) (drop (c.loop-line.line-index + 1) c.args.lines.now)) in
    elim c.match-line.branch [
      | in-Budget w ↦ ap (λ n. n + rest) w.count-is
          ∙ budget_more value c.args.lines.now c.loop-line.line-index c.line-item.result c.loop-line.count
          c.loop-line-test.true c.line-item.is c.loop-line.invariant w.in-Budget.is w.items.ensures.list
      | in_default w ↦ ap (λ n. n + rest) w.count-is
          ∙ line_more value c.args.lines.now c.loop-line.line-index c.line-item.result c.loop-line.count
          c.loop-line-test.true c.line-item.is c.loop-line.invariant w.in_default.is
    ]
