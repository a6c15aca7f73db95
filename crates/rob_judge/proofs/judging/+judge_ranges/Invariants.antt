use Rattle.std.proofs.Common.{◌≡◌, ◌+◌, ◌*◌, length}
use Rattle.rob_index.specs.Settings.{count as span}
use Rattle.rob_expand.specs.Judging.{worse, values_found}
use Rattle.rob_judge.proofs.judging.+judge_ranges.Given as goal

abbrev pub invariant-judge_values-values : goal.invariant-judge_values-values
invariant-judge_values-values l =
    worse l.found (values_found l.value l.upto l.inner l.values) ≡ values_found l.fn.from l.upto l.inner l.values

abbrev pub decreases-judge_values-values : goal.decreases-judge_values-values
decreases-judge_values-values l = span l.value l.upto

abbrev pub decreases-judge_ranges : goal.decreases-judge_ranges
decreases-judge_ranges l = 3 * length l.ranges.now

abbrev pub decreases-judge_inner : goal.decreases-judge_inner
decreases-judge_inner l = 3 * length l.inner.now + 2

abbrev pub decreases-judge_values : goal.decreases-judge_values
decreases-judge_values l = 3 * length l.inner.now + 1
