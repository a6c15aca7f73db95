use Rattle.std.proofs.Common.{◌≡◌, drop}
use Rattle.rob_expand.specs.Judging.{worse, worst, index_found}
use Rattle.rob_judge.proofs.judging.judge_indices_inside.Given as goal

abbrev pub invariant-loop-index : goal.invariant-loop-index
invariant-loop-index l =
    worse l.found (worst (λ f. index_found f l.values) (drop l.index-index l.indices))
    ≡ worst (λ f. index_found f l.values) l.indices
