use Rattle.std.proofs.Common.{◌≡◌, drop}
use Rattle.rob_expand.specs.Judging.{worse, worst, item_found}
use Rattle.rob_judge.proofs.judging.judge_items.Given as goal

abbrev pub invariant-loop-item : goal.invariant-loop-item
invariant-loop-item l =
    worse l.found (worst (λ x. item_found x l.values) (drop l.item-index l.items))
    ≡ worst (λ x. item_found x l.values) l.items
