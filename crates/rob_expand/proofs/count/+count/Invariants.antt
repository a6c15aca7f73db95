use Rattle.std.proofs.Common.{length}
use Rattle.rob_index.specs.Forms.{values_of}
use Rattle.rob_expand.proofs.Counting.OverLemmas.{HasEachLeft}
use Rattle.rob_expand.proofs.Counting.StepLemmas.{HasFactorsLeft, HasPartsLeft}
use Rattle.rob_expand.proofs.count.+count.Given as goal

abbrev pub invariant-count_parts-loop-part : goal.invariant-count_parts-loop-part
invariant-count_parts-loop-part l = HasPartsLeft l.limit l.values l.parts l.part-index l.first l.left l.room

abbrev pub invariant-count_factors-loop-factor : goal.invariant-count_factors-loop-factor
invariant-count_factors-loop-factor l =
    HasFactorsLeft l.limit l.values l.factors l.factor-index l.first l.left l.room

abbrev pub invariant-count_each-values : goal.invariant-count_each-values
invariant-count_each-values l =
    HasEachLeft l.limit l.inner l.values l.first l.run l.left (values_of l.ends l.values) l.room

abbrev pub decreases-count_each-values : goal.decreases-count_each-values
decreases-count_each-values l = length l.run
