use Rattle.std.proofs.Common.{◌≡◌, ap, ◌∙◌}
use Rattle.std.specs.Prelude.{fold}
use Rattle.std.specs.List.{list_any}
use Rattle.std.proofs.lemmas.Result.{IfOk-weaker, on_ok_weaker}
use Rattle.rob_algebra.proofs.ListLemmas.{drop_at, drop_all}
use Rattle.rob_index.specs.Forms.{values_of}
use Rattle.rob_index.specs.Rules.{is_long_name}
use Rattle.rob_syntax.specs.Known.{texts}
use Rattle.rob_expand.specs.Growing.{add_name, each_names, printed_at}
use Rattle.rob_expand.specs.Names.{tree_names}
use Rattle.rob_expand.specs.Placed.{Placed, placed_of}
use Rattle.rob_expand.proofs.Counting.StepLemmas.{over_seen}
use Rattle.rob_expand.proofs.Walks.WalkLemmas.{next_some, next_none, words_more, words_all, long_more, long_all, words_are, long_are}
use Rattle.rob_expand.proofs.Counting.InmostLemmas.{printed_inside}
use Rattle.rob_expand.proofs.Expanding.NameLemmas.{part_names_at, factor_names_at, value_names_at, parts_named, factors_named, over_named, words_inside, long_inside}
use Rattle.rob_expand.proofs.grow.+grow.Goals as goal

pub grow_parts-loop-part-preserved : goal.grow_parts-loop-part-preserved
grow_parts-loop-part-preserved t c =
    let f = part_names_at (texts c.args.own.now.keys) c.args.values.now in
    let is = drop_at c.args.parts.now c.loop-part.part-index c.part-item.result c.loop-part-test.true c.part-item.is in
    record {
      words = words_more f (texts c.loop-part.words.keys) _ _ _ c.part-item.result is c.in_ok-here.ensures.words
          c.loop-part.invariant.words;
      long =
          long_more f c.loop-part.long c.in_ok-here.here _ _ _ c.part-item.result is c.in_ok-here.ensures.long
          c.either-long.ensures.either c.loop-part.invariant.long;
    }

pub grow_parts-returns : goal.grow_parts-returns
grow_parts-returns t c =
    let f = part_names_at (texts c.args.own.now.keys) c.args.values.now in
    let none = drop_all c.loop-part.part-index c.args.parts.now c.loop-part-test.false in
    let all = parts_named (texts c.args.own.now.keys) c.args.values.now c.args.parts.now in
    record {
      words = words_are f _ (texts c.args.words.now.keys) _ _ _ none all c.loop-part.invariant.words;
      long = long_are f c.loop-part.long _ _ _ none all c.loop-part.invariant.long;
    }

pub grow_factors-loop-factor-preserved : goal.grow_factors-loop-factor-preserved
grow_factors-loop-factor-preserved t c =
    let f = factor_names_at (texts c.args.own.now.keys) c.args.values.now in
    let is = drop_at c.args.factors.now c.loop-factor.factor-index c.factor-item.result c.loop-factor-test.true
    c.factor-item.is in
    record {
      words = words_more f (texts c.loop-factor.words.keys) _ _ _ c.factor-item.result is c.in_ok-here.ensures.words
          c.loop-factor.invariant.words;
      long =
          long_more f c.loop-factor.long c.in_ok-here.here _ _ _ c.factor-item.result is c.in_ok-here.ensures.long
          c.either-long.ensures.either c.loop-factor.invariant.long;
    }

pub grow_factors-returns : goal.grow_factors-returns
grow_factors-returns t c =
    let f = factor_names_at (texts c.args.own.now.keys) c.args.values.now in
    let none = drop_all c.loop-factor.factor-index c.args.factors.now c.loop-factor-test.false in
    let all = factors_named (texts c.args.own.now.keys) c.args.values.now c.args.factors.now in
    record {
      words = words_are f _ (texts c.args.words.now.keys) _ _ _ none all c.loop-factor.invariant.words;
      long = long_are f c.loop-factor.long _ _ _ none all c.loop-factor.invariant.long;
    }

pub grow_tree-returns-in-Over : goal.grow_tree-returns-in-Over
grow_tree-returns-in-Over t c =
    let own = texts c.args.own.now.keys in
    let vs = c.args.values.now in
    let same : each_names own (placed_of c.deref.result.now) vs (values_of c.in-Over.ends vs)
    ≡ tree_names (printed_at own (placed_of c.args.placed.now) vs) =
    over_named own vs c.in-Over.ends (placed_of c.deref.result.now)
    ∙ ap (λ (p : Placed). tree_names (printed_at own p vs))
    (over_seen c.in-Over.ends c.in-Over.inner c.args.placed.now c.deref.result.now c.in-Over.is c.deref.ensures) in
    record {
      words =
          on_ok_weaker c.grow_over.result
          (λ e. e ∙ ap (fold add_name (texts c.args.words.now.keys)) same) c.grow_over.ensures.words;
      long = IfOk-weaker c.grow_over.result _ _ (λ b e. e ∙ ap (list_any is_long_name) same) c.grow_over.ensures.long;
    }

pub grow_over-values-preserved : goal.grow_over-values-preserved
grow_over-values-preserved t c =
    let f = value_names_at (texts c.args.own.now.keys) (placed_of c.args.inner.now) c.args.values.now in
    let is = next_some c.in_ok-value.field-0 c.in-Some.value _ _ c.in-Some.is c.in_ok-value.ensures.next in
    record {
      words = words_more f (texts c.values.words.keys) _ _ _ c.in-Some.value is c.in_ok-here.ensures.words
          c.values.invariant.words;
      long = long_more f c.values.long c.in_ok-here.here _ _ _ c.in-Some.value is c.in_ok-here.ensures.long
          c.either-long.ensures.either c.values.invariant.long;
    }

pub grow_over-returns : goal.grow_over-returns
grow_over-returns t c =
    let f = value_names_at (texts c.args.own.now.keys) (placed_of c.args.inner.now) c.args.values.now in
    let none = next_none c.in_ok-value.field-0 _ _ c.in_default.is c.in_ok-value.ensures.next in
    record {
      words = words_all f _ _ none c.values.invariant.words;
      long = long_all f c.values.long _ none c.values.invariant.long;
    }

pub grow_at-returns-in-Over : goal.grow_at-returns-in-Over
grow_at-returns-in-Over t c =
    let inside =
    printed_inside c.in_ok-last-in-Over.ensures.inmost c.in_ok-inside.ensures.values
    (texts c.args.own.now.keys) in
    record {
      words =
          on_ok_weaker c.grow_tree.result
          (λ e. words_inside inside (texts c.args.words.now.keys) _ e) c.grow_tree.ensures.words;
      long = IfOk-weaker c.grow_tree.result _ _ (λ b e. long_inside inside b e) c.grow_tree.ensures.long;
    }
