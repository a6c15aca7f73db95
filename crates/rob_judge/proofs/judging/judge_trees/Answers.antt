use Rattle.rob_algebra.proofs.ListLemmas.{drop_at, drop_all}
use Rattle.rob_expand.proofs.Walks.FindingLemmas.{worst_more, worst_all}
use Rattle.rob_judge.proofs.JudgeLemmas.{factor_found}
use Rattle.rob_judge.proofs.judging.judge_trees.Goals as goal

pub loop-tree-preserved : goal.loop-tree-preserved
loop-tree-preserved c =
    let step = drop_at c.args.trees.now c.loop-tree.tree-index c.tree-item.result c.loop-tree-test.true c.tree-item.is
    in
    worst_more (factor_found c.args.values.now) c.loop-tree.found c.in_ok-here.here _ _ _ c.tree-item.result step
    c.in_ok-here.ensures.found c.worse-found.ensures.worse c.loop-tree.invariant

pub returns : goal.returns
returns c =
    let none = drop_all c.loop-tree.tree-index c.args.trees.now c.loop-tree-test.false in
    record { found = worst_all (factor_found c.args.values.now) c.loop-tree.found _ none c.loop-tree.invariant }
