use Rattle.std.proofs.Common.{List, refl}
use Rattle.rob_cells.proofs.ListLemmas.{appended_more}
use Rattle.rob_model.specs.declared.model.Param.{Param}
use Rattle.rob_cells.proofs.copies.append_params.Goals as goal

pub loop-param-preserved : goal.loop-param-preserved
loop-param-preserved g c =
    appended_more (λ (ps : List (Param g.row.N.Denot)). ps) c.args.params.now c.loop-param.list c.loop-param.param-index
    (λ (p : Param g.row.N.Denot). p) (λ x xs. refl) c.loop-param-test.true c.param-item.is
    (λ i. record (c.param-item.result) { name = c.in_ok-copy_text.ensures.equal i })
    c.in_ok-push.ensures.appended c.loop-param.invariant
