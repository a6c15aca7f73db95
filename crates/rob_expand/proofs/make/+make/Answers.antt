use Rattle.std.proofs.Common.{◌≡◌, [], ◌∷◌, ◌++◌, map, false, ap, sym, ◌∙◌}
use Rattle.std.specs.Prelude.{ℤ}
use Rattle.std.proofs.lemmas.Result.{IfOk-weaker}
use Rattle.rob_algebra.proofs.ListLemmas.{drop_at, drop_all}
use Rattle.rob_index.specs.Forms.{values_of}
use Rattle.rob_syntax.specs.declared.syntax.Syntax.{Syntax}
use Rattle.rob_syntax.specs.Known.{texts}
use Rattle.rob_syntax.specs.Numbered.{numbered_tree}
use Rattle.rob_expand.specs.declared.placed.Part.{Part as CodePart}
use Rattle.rob_expand.specs.declared.placed.Placed.{Placed as Code}
use Rattle.rob_expand.specs.Growing.{printed_at}
use Rattle.rob_expand.specs.Making.{summed_of, made_each}
use Rattle.rob_expand.specs.Placed.{Placed, placed_of}
use Rattle.rob_expand.proofs.Counting.InmostLemmas.{printed_inside}
use Rattle.rob_expand.proofs.Counting.StepLemmas.{over_seen}
use Rattle.rob_expand.proofs.Walks.WalkLemmas.{next_some, next_none, made_more, made_all}
use Rattle.rob_expand.proofs.Expanding.MakeLemmas.{part_made, parts_made, factor_made, factors_made, value_made, each_made, summed_made}
use Rattle.rob_expand.proofs.make.+make.Goals as goal

pub make_parts-loop-part-preserved : goal.make_parts-loop-part-preserved
make_parts-loop-part-preserved t c =
    let own = texts c.args.own.now.keys in
    let words = texts c.args.words.now.keys in
    let step = drop_at c.args.parts.now c.loop-part.part-index c.part-item.result c.loop-part-test.true c.part-item.is
    in
    made_more (λ (x : CodePart). part_made own words c.args.values.now x ∷ []) c.loop-part.made _ _ _ c.part-item.result
    step
    (c.in_ok-push.ensures.appended
    ∙ ap (λ (s : Syntax). c.loop-part.made ++ record { minus = c.part-item.result.minus; inner = s } ∷ [])
    c.in_ok-inner.ensures.made)
    c.loop-part.invariant

pub make_parts-returns : goal.make_parts-returns
make_parts-returns t c = record {
  made =
      let own = texts c.args.own.now.keys in
      let words = texts c.args.words.now.keys in
      made_all (λ (x : CodePart). part_made own words c.args.values.now x ∷ []) c.loop-part.made _
      (drop_all c.loop-part.part-index c.args.parts.now c.loop-part-test.false) c.loop-part.invariant
      ∙ sym (parts_made own words c.args.values.now c.args.parts.now);
}

pub make_factors-loop-factor-preserved : goal.make_factors-loop-factor-preserved
make_factors-loop-factor-preserved t c =
    let own = texts c.args.own.now.keys in
    let words = texts c.args.words.now.keys in
    let step = drop_at c.args.factors.now c.loop-factor.factor-index c.factor-item.result c.loop-factor-test.true
    c.factor-item.is in
    made_more (λ (x : Code). factor_made own words c.args.values.now x ∷ []) c.loop-factor.made _ _ _
    c.factor-item.result step
    (c.in_ok-push.ensures.appended
    ∙ ap (λ (s : Syntax). c.loop-factor.made ++ s ∷ []) c.in_ok-make.ensures.made)
    c.loop-factor.invariant

pub make_factors-returns : goal.make_factors-returns
make_factors-returns t c = record {
  made =
      let own = texts c.args.own.now.keys in
      let words = texts c.args.words.now.keys in
      made_all (λ (x : Code). factor_made own words c.args.values.now x ∷ []) c.loop-factor.made _
      (drop_all c.loop-factor.factor-index c.args.factors.now c.loop-factor-test.false) c.loop-factor.invariant
      ∙ sym (factors_made own words c.args.values.now c.args.factors.now);
}

pub make-returns-in-Over : goal.make-returns-in-Over
make-returns-in-Over t c =
    let own = texts c.args.own.now.keys in
    let words = texts c.args.words.now.keys in
    let vs = c.args.values.now in
    let same : summed_of (made_each own words (placed_of c.deref.result.now) vs (values_of c.in-Over.ends vs))
    ≡ numbered_tree words (printed_at own (placed_of c.args.placed.now) vs) =
    summed_made words (map (λ v. printed_at own (placed_of c.deref.result.now) (v ∷ vs)) (values_of c.in-Over.ends vs))
    ∙ ap (λ (p : Placed). numbered_tree words (printed_at own p vs))
    (over_seen c.in-Over.ends c.in-Over.inner c.args.placed.now c.deref.result.now c.in-Over.is c.deref.ensures) in
    record { made = IfOk-weaker c.make_over.result _ _ (λ s e. e ∙ same) c.make_over.ensures.made }

pub make_over-values-preserved : goal.make_over-values-preserved
make_over-values-preserved t c =
    let own = texts c.args.own.now.keys in
    let words = texts c.args.words.now.keys in
    made_more (λ (v : ℤ). value_made own words c.args.values.now (placed_of c.args.inner.now) v ∷ [])
    c.values.made.items _ _ _
    c.in-Some.value (next_some c.in_ok-value.field-0 c.in-Some.value _ _ c.in-Some.is c.in_ok-value.ensures.next)
    (c.in_ok-push.ensures.items
    ∙ ap (λ (s : Syntax). c.values.made.items ++ record { minus = false; inner = s } ∷ []) c.in_ok-plain.ensures.made)
    c.values.invariant

pub make_over-returns : goal.make_over-returns
make_over-returns t c = record {
  made =
      let own = texts c.args.own.now.keys in
      let words = texts c.args.words.now.keys in
      let all =
      made_all (λ (v : ℤ). value_made own words c.args.values.now (placed_of c.args.inner.now) v ∷ [])
      c.values.made.items _
      (next_none c.in_ok-value.field-0 _ _ c.in_default.is c.in_ok-value.ensures.next) c.values.invariant
      ∙ sym (each_made own words c.args.values.now (placed_of c.args.inner.now)
      (values_of c.args.ends.now c.args.values.now)) in
      c.summed.ensures.sum ∙ ap summed_of all;
}

pub make_at-returns-in-Over : goal.make_at-returns-in-Over
make_at-returns-in-Over t c = record {
  made =
      IfOk-weaker c.make.result _ _
      (λ s e. e
      ∙ ap (numbered_tree (texts c.args.words.now.keys))
      (printed_inside c.in_ok-last-in-Over.ensures.inmost c.in_ok-inside.ensures.values
      (texts c.args.own.now.keys))) c.make.ensures.made;
}
