use Rattle.std.proofs.Common.{◌≡◌, ◌∷◌, ap, sym, ◌∙◌}
use Rattle.std.specs.Prelude.{ℤ}
use Rattle.std.proofs.lemmas.Result.{IfOk-weaker}
use Rattle.rob_algebra.proofs.ListLemmas.{drop_at, drop_all}
use Rattle.rob_index.specs.Forms.{values_of}
use Rattle.rob_expand.specs.Placed.{Placed, over, placed_of}
use Rattle.rob_expand.specs.Judging.{worst, length_found, range_found, tree_found}
use Rattle.rob_expand.proofs.Counting.InmostLemmas.{found_inside}
use Rattle.rob_expand.proofs.Counting.StepLemmas.{over_placed}
use Rattle.rob_expand.proofs.Walks.WalkLemmas.{next_some, next_none}
use Rattle.rob_expand.proofs.Walks.FindingLemmas.{worst_more, worst_all}
use Rattle.rob_judge.proofs.JudgeLemmas.{part_found, factor_found, parts_gathered, factors_gathered, long_first}
use Rattle.rob_judge.proofs.judging.+judge_tree.Goals as goal

pub judge_parts-loop-part-preserved : goal.judge_parts-loop-part-preserved
judge_parts-loop-part-preserved t c =
    let step = drop_at c.args.parts.now c.loop-part.part-index c.part-item.result c.loop-part-test.true c.part-item.is
    in
    worst_more (part_found c.args.values.now) c.loop-part.found c.in_ok-here.here _ _ _ c.part-item.result step
    c.in_ok-here.ensures.found c.worse-found.ensures.worse c.loop-part.invariant

pub judge_parts-returns : goal.judge_parts-returns
judge_parts-returns t c =
    let none = drop_all c.loop-part.part-index c.args.parts.now c.loop-part-test.false in
    record {
      found =
          worst_all (part_found c.args.values.now) c.loop-part.found _ none c.loop-part.invariant
          ∙ sym (parts_gathered c.args.values.now c.args.parts.now);
    }

pub judge_factors-loop-factor-preserved : goal.judge_factors-loop-factor-preserved
judge_factors-loop-factor-preserved t c =
    let step = drop_at c.args.factors.now c.loop-factor.factor-index c.factor-item.result c.loop-factor-test.true
    c.factor-item.is in
    worst_more (factor_found c.args.values.now) c.loop-factor.found c.in_ok-here.here _ _ _ c.factor-item.result step
    c.in_ok-here.ensures.found c.worse-found.ensures.worse c.loop-factor.invariant

pub judge_factors-returns : goal.judge_factors-returns
judge_factors-returns t c =
    let none = drop_all c.loop-factor.factor-index c.args.factors.now c.loop-factor-test.false in
    record {
      found =
          worst_all (factor_found c.args.values.now) c.loop-factor.found _ none c.loop-factor.invariant
          ∙ sym (factors_gathered c.args.values.now c.args.factors.now);
    }

pub judge_tree-returns-in-Over : goal.judge_tree-returns-in-Over
judge_tree-returns-in-Over t c =
    let vs = c.args.values.now in
    let whole : placed_of c.args.placed.now ≡ over c.in-Over.ends (placed_of c.in-Over.inner.value) =
    ap placed_of c.in-Over.is ∙ over_placed c.in-Over.ends c.in-Over.inner in
    let there : placed_of c.deref.result.now ≡ placed_of c.in-Over.inner.value = ap placed_of c.deref.ensures in
    let same : range_found c.in-Over.ends (tree_found (placed_of c.deref.result.now)) vs
    ≡ tree_found (placed_of c.args.placed.now) vs =
    ap (λ (p : Placed). range_found c.in-Over.ends (tree_found p) vs) there
    ∙ ap (λ (p : Placed). tree_found p vs) (sym whole) in
    record { found = IfOk-weaker c.judge_over.result _ _ (λ b e. e ∙ same) c.judge_over.ensures.found }

pub judge_over-returns-then-is_too_long : goal.judge_over-returns-then-is_too_long
judge_over-returns-then-is_too_long t c =
    let vs = c.args.values.now in
    record {
      found =
          long_first c.in_ok-found.found (length_found c.args.ends.now vs)
          (worst (λ v. tree_found (placed_of c.args.inner.now) (v ∷ vs)) (values_of c.args.ends.now vs))
          c.in_ok-found.ensures.found (sym c.is_too_long.ensures.is ∙ c.if-is_too_long.true);
    }

pub judge_over-values-preserved : goal.judge_over-values-preserved
judge_over-values-preserved t c =
    let p = placed_of c.args.inner.now in
    let f = λ (v : ℤ). tree_found p (v ∷ c.args.values.now) in
    let step = next_some c.in_ok-value.field-0 c.in-Some.value _ _ c.in-Some.is c.in_ok-value.ensures.next in
    worst_more f c.values.found c.in_ok-here.here _ _ _ c.in-Some.value step
    c.in_ok-here.ensures.found c.worse-found.ensures.worse c.values.invariant

pub judge_over-returns : goal.judge_over-returns
judge_over-returns t c =
    let f = λ (v : ℤ). tree_found (placed_of c.args.inner.now) (v ∷ c.args.values.now) in
    let none = next_none c.in_ok-value.field-0 _ _ c.in_default.is c.in_ok-value.ensures.next in
    record { found = worst_all f c.values.found _ none c.values.invariant }

pub judge_at-returns-in-Over : goal.judge_at-returns-in-Over
judge_at-returns-in-Over t c = record {
  found =
      IfOk-weaker c.judge_tree.result _ _
      (λ b e. e ∙ found_inside c.in_ok-last-in-Over.ensures.inmost c.in_ok-inside.ensures.values)
      c.judge_tree.ensures.found;
}
