use Rattle.std.proofs.Common.{◌∙◌, refl, ap}
use Rattle.std.specs.Prelude.{not}
use Rattle.std.proofs.lemmas.Result.{IfOk-weaker}
use Rattle.rob_number.proofs.AnswerLaws.{on_ok_any}
use Rattle.rob_syntax.specs.declared.syntax.Part.{Part as Given}
use Rattle.rob_syntax.specs.declared.syntax.Tree.{Tree as GivenTree}
use Rattle.rob_syntax.specs.Seen.{seen_part, seen_tree}
use Rattle.rob_expand.specs.declared.placed.Placed.{Placed as Code}
use Rattle.rob_expand.specs.declared.placed.Part.{Part as CodePart}
use Rattle.rob_expand.specs.declared.scope.Binding.{Binding}
use Rattle.rob_expand.specs.Placed.{part_of}
use Rattle.rob_expand.specs.Scopes.{IsPart, IsPlaced, outside}
use Rattle.rob_expand.proofs.Values.PlaceLemmas.{pairs_none, pairs_more, pairs_all, placed_as, number_placed, ref_placed, sum_placed, product_placed, part_placed, ranged_placed, single_placed, over_is_placed}
use Rattle.rob_expand.proofs.Values.ScopeLemmas.{outside_is}
use Rattle.rob_expand.proofs.place.+place.Goals as goal

pub place-returns-in-Number-clause-placed : goal.place-returns-in-Number-clause-placed
place-returns-in-Number-clause-placed t c =
    let scope = c.args.scope.now in
    number_placed scope.bound scope.names c.args.tree.now c.in-Number.number c.in-Number.is

pub place-returns-in_ok-name_within-in-Ref-clause-placed : goal.place-returns-in_ok-name_within-in-Ref-clause-placed
place-returns-in_ok-name_within-in-Ref-clause-placed t c =
    let scope = c.args.scope.now in
    ref_placed scope.bound scope.names c.args.tree.now c.in-Ref.name c.in_ok-name_within-in-Ref.field-0 c.in-Ref.is
    c.in_ok-name_within-in-Ref.ensures.word c.in_ok-name_within-in-Ref.ensures.indices

pub place-returns-in_ok-place_parts-in-Sum-clause-placed : goal.place-returns-in_ok-place_parts-in-Sum-clause-placed
place-returns-in_ok-place_parts-in-Sum-clause-placed t c =
    let scope = c.args.scope.now in
    sum_placed scope.bound scope.names c.args.tree.now c.in-Sum.parts c.items.result.now
    c.in_ok-place_parts-in-Sum.field-0 c.in-Sum.is c.items.ensures.list c.in_ok-place_parts-in-Sum.ensures.placed

pub place-returns-in_ok-factors-in-Product-clause-placed : goal.place-returns-in_ok-factors-in-Product-clause-placed
place-returns-in_ok-factors-in-Product-clause-placed t c =
    let scope = c.args.scope.now in
    product_placed scope.bound scope.names c.args.tree.now c.in-Product.factors c.items-in-Product.result.now
    c.in_ok-factors-in-Product.factors c.in-Product.is c.items-in-Product.ensures.list
    c.in_ok-factors-in-Product.ensures.placed

pub place-returns-in-Ranged-clause-placed : goal.place-returns-in-Ranged-clause-placed
place-returns-in-Ranged-clause-placed t c =
    let scope = c.args.scope.now in
    IfOk-weaker c.place_ranged.result _ _
    (λ p h. ranged_placed scope.bound scope.names c.args.tree.now c.in-Ranged.range c.in-Ranged.inner
    c.deref.result.now p c.in-Ranged.is c.deref.ensures h) c.place_ranged.ensures.placed

pub place_ranged-returns-then-single-clause-placed : goal.place_ranged-returns-then-single-clause-placed
place_ranged-returns-then-single-clause-placed t c =
    let scope = c.args.scope.now in
    let single = c.is_nothing-single.result in
    single_placed scope.bound scope.names c.in_ok-from.from c.in_ok-length.length c.args.range.now c.args.inner.now
    c.in_ok-from.ensures.form c.in_ok-length.ensures.length (not single) c.enter.new.self
    c.in_ok-enter.ensures.entered c.in_ok-inner.inner c.in_ok-inner.ensures.placed
    (c.is_nothing-single.ensures.nothing c.if-single.true) (ap not c.if-single.true)

pub place_ranged-returns-then-single-clause-around : goal.place_ranged-returns-then-single-clause-around
place_ranged-returns-then-single-clause-around t c =
    let start : Binding = record { moves = not c.is_nothing-single.result; start = c.in_ok-from.from } in
    c.leave.ensures.left ∙ ap outside (c.in_ok-inner.ensures.around ∙ c.in_ok-enter.ensures.entered)
    ∙ outside_is c.args.scope.now c.args.range.now.name start

pub place_ranged-returns-clause-placed : goal.place_ranged-returns-clause-placed
place_ranged-returns-clause-placed t c =
    let scope = c.args.scope.now in
    let single = c.is_nothing-single.result in
    IfOk-weaker c.sum_over.result _ _ (λ p is. over_is_placed scope.bound scope.names c.in_ok-from.from
    c.in_ok-length.length c.args.range.now c.args.inner.now c.in_ok-from.ensures.form c.in_ok-length.ensures.length
    (not single) c.enter.new.self c.in_ok-enter.ensures.entered c.in_ok-inner.inner c.in_ok-inner.ensures.placed
    (ap not c.if-single.false) p is) c.sum_over.ensures.placed

pub place_ranged-returns-clause-around : goal.place_ranged-returns-clause-around
place_ranged-returns-clause-around t c =
    let start : Binding = record { moves = not c.is_nothing-single.result; start = c.in_ok-from.from } in
    on_ok_any c.sum_over.result (c.leave.ensures.left ∙ ap outside (c.in_ok-inner.ensures.around
    ∙ c.in_ok-enter.ensures.entered) ∙ outside_is c.args.scope.now c.args.range.now.name start)

pub place_parts-loop-part-init : goal.place_parts-loop-part-init
place_parts-loop-part-init t c =
    let scope = c.args.scope.now in
    let of_part : CodePart → Given → Type 0 = λ p x. IsPart scope.bound scope.names (part_of p) (seen_part x) in
    record {
      around = refl;
      placed = pairs_none of_part c.new-placed.result c.args.parts.now c.new-placed.ensures.empty;
    }

pub place_parts-loop-part-preserved : goal.place_parts-loop-part-preserved
place_parts-loop-part-preserved t c =
    let scope = c.args.scope.now in
    let of_part : CodePart → Given → Type 0 = λ p x. IsPart scope.bound scope.names (part_of p) (seen_part x) in
    let made : CodePart = record { minus = c.part-item.result.minus; inner = c.in_ok-inner.inner } in
    let inner = seen_tree c.part-item.result.inner in
    record {
      around = c.in_ok-inner.ensures.around ∙ c.loop-part.invariant.around;
      placed =
          pairs_more of_part c.loop-part.placed c.push.new.self c.args.parts.now c.loop-part.part-index
          c.part-item.result made c.loop-part-test.true c.part-item.is c.in_ok-push.ensures.appended
          (part_placed scope.bound scope.names c.part-item.result made refl
          (placed_as scope c.in_ok-inner.inner inner c.loop-part.invariant.around c.in_ok-inner.ensures.placed))
          c.loop-part.invariant.placed;
    }

pub place_parts-returns-clause-placed : goal.place_parts-returns-clause-placed
place_parts-returns-clause-placed t c =
    let scope = c.args.scope.now in
    let of_part : CodePart → Given → Type 0 = λ p x. IsPart scope.bound scope.names (part_of p) (seen_part x) in
    pairs_all of_part c.loop-part.placed c.args.parts.now c.loop-part.part-index c.loop-part-test.false
    c.loop-part.invariant.placed

pub place_factors-loop-factor-init : goal.place_factors-loop-factor-init
place_factors-loop-factor-init t c =
    let scope = c.args.scope.now in
    let of_factor : Code → GivenTree → Type 0 = λ p x. IsPlaced scope.bound scope.names p (seen_tree x) in
    record {
      around = refl;
      placed = pairs_none of_factor c.new-placed.result c.args.factors.now c.new-placed.ensures.empty;
    }

pub place_factors-loop-factor-preserved : goal.place_factors-loop-factor-preserved
place_factors-loop-factor-preserved t c =
    let scope = c.args.scope.now in
    let of_factor : Code → GivenTree → Type 0 = λ p x. IsPlaced scope.bound scope.names p (seen_tree x) in
    let placed = c.in_ok-place.field-0 in
    record {
      around = c.in_ok-place.ensures.around ∙ c.loop-factor.invariant.around;
      placed =
          pairs_more of_factor c.loop-factor.placed c.push.new.self c.args.factors.now c.loop-factor.factor-index
          c.factor-item.result placed c.loop-factor-test.true c.factor-item.is c.in_ok-push.ensures.appended
          (placed_as scope placed (seen_tree c.factor-item.result) c.loop-factor.invariant.around
          c.in_ok-place.ensures.placed) c.loop-factor.invariant.placed;
    }

pub place_factors-returns-clause-placed : goal.place_factors-returns-clause-placed
place_factors-returns-clause-placed t c =
    let scope = c.args.scope.now in
    let of_factor : Code → GivenTree → Type 0 = λ p x. IsPlaced scope.bound scope.names p (seen_tree x) in
    pairs_all of_factor c.loop-factor.placed c.args.factors.now c.loop-factor.factor-index c.loop-factor-test.false
    c.loop-factor.invariant.placed
