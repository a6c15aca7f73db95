use Rattle.rob_model.specs.View.{adaptive_of}
use Rattle.rob_report.proofs.TableLemmas.{pieces_more}
use Rattle.rob_report.specs.Tables.{own_bound_names}
use Rattle.rob_report.proofs.table.push_bounds.Goals as goal

pub loop-adaptive-preserved : goal.loop-adaptive-preserved
loop-adaptive-preserved g c =
    let y = c.adaptive-item.result in
    pieces_more (adaptive_of g.N.Exact.value) own_bound_names c.args.adaptives.now c.loop-adaptive.adaptive-index y y
    c.loop-adaptive.names c.push_own_bounds.new.names _ c.loop-adaptive-test.true c.adaptive-item.is
    c.in_ok-push_own_bounds.ensures.appended c.loop-adaptive.invariant
