use Rattle.rob_algebra.proofs.ListLemmas.{drop_at, drop_all}
use Rattle.rob_index.specs.Forms.{Form}
use Rattle.rob_expand.specs.Judging.{index_found}
use Rattle.rob_expand.proofs.Walks.FindingLemmas.{worst_more, worst_all}
use Rattle.rob_judge.proofs.judging.judge_indices_inside.Goals as goal

pub loop-index-preserved : goal.loop-index-preserved
loop-index-preserved c =
    let f = λ (x : Form). index_found x c.args.values.now in
    let step = drop_at c.args.indices.now c.loop-index.index-index c.index-item.result c.loop-index-test.true
    c.index-item.is in
    worst_more f c.loop-index.found c.in_ok-here.here _ _ _ c.index-item.result step c.in_ok-here.ensures.found
    c.worse-found.ensures.worse c.loop-index.invariant

pub returns : goal.returns
returns c =
    let f = λ (x : Form). index_found x c.args.values.now in
    let none = drop_all c.loop-index.index-index c.args.indices.now c.loop-index-test.false in
    record { found = worst_all f c.loop-index.found _ none c.loop-index.invariant }
