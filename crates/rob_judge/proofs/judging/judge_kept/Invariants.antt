use Rattle.std.proofs.Common.{◌≡◌, drop}
use Rattle.rob_expand.specs.Judging.{worse, worst, item_found}
use Rattle.rob_settings.specs.Spots.{picks}
use Rattle.rob_judge.proofs.judging.judge_kept.Given as goal

abbrev pub invariant-loop-k : goal.invariant-loop-k
invariant-loop-k l =
    worse l.found (worst (λ x. item_found x l.values) (picks l.items (drop l.k-index l.kept)))
    ≡ worst (λ x. item_found x l.values) (picks l.items l.kept)
