use Rattle.std.proofs.Common.{◌≡◌, drop}
use Rattle.rob_expand.specs.Judging.{worse, worst}
use Rattle.rob_judge.proofs.JudgeLemmas.{factor_found}
use Rattle.rob_judge.proofs.judging.judge_trees.Given as goal

abbrev pub invariant-loop-tree : goal.invariant-loop-tree
invariant-loop-tree l =
    worse l.found (worst (factor_found l.values) (drop l.tree-index l.trees)) ≡ worst (factor_found l.values) l.trees
