use Rattle.std.proofs.Common.{◌≡◌, ◌∷◌, length, drop}
use Rattle.rob_expand.specs.Placed.{placed_of}
use Rattle.rob_expand.specs.Judging.{worse, worst, tree_found, range_found}
use Rattle.rob_judge.proofs.JudgeLemmas.{part_found, factor_found}
use Rattle.rob_judge.proofs.judging.+judge_tree.Given as goal

abbrev pub invariant-judge_parts-loop-part : goal.invariant-judge_parts-loop-part
invariant-judge_parts-loop-part l =
    worse l.found (worst (part_found l.values) (drop l.part-index l.parts)) ≡ worst (part_found l.values) l.parts

abbrev pub invariant-judge_factors-loop-factor : goal.invariant-judge_factors-loop-factor
invariant-judge_factors-loop-factor l =
    worse l.found (worst (factor_found l.values) (drop l.factor-index l.factors))
    ≡ worst (factor_found l.values) l.factors

abbrev pub invariant-judge_over-values : goal.invariant-judge_over-values
invariant-judge_over-values l =
    worse l.found (worst (λ v. tree_found (placed_of l.inner) (v ∷ l.values)) l.run)
    ≡ range_found l.ends (tree_found (placed_of l.inner)) l.values

abbrev pub decreases-judge_over-values : goal.decreases-judge_over-values
decreases-judge_over-values l = length l.run
