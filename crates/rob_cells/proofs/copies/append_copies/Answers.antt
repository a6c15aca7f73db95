use Rattle.rob_cells.proofs.ListLemmas.{mapped_all, mapped_more}
use Rattle.rob_model.specs.View.{adaptive_of}
use Rattle.rob_pieces.specs.SplitModel.{copy_in}
use Rattle.rob_cells.proofs.copies.append_copies.Goals as goal

pub loop-adaptive-preserved : goal.loop-adaptive-preserved
loop-adaptive-preserved g c m =
    let view = adaptive_of g.N.Exact.value in
    mapped_more view view (copy_in m c.args.c) c.args.adaptives.now _ c.loop-adaptive.adaptive-index _ _ _ _
    c.loop-adaptive-test.true c.adaptive-item.is (c.in_ok-next.ensures.copied m) c.in_ok-push.ensures.appended
    (c.loop-adaptive.invariant m)

pub returns : goal.returns
returns g c =
    let view = adaptive_of g.N.Exact.value in
    record {
      appended = λ m. mapped_all view view (copy_in m c.args.c) c.args.adaptives.now _ c.loop-adaptive.adaptive-index
          c.loop-adaptive.list c.loop-adaptive-test.false (c.loop-adaptive.invariant m);
    }
