use Rattle.std.proofs.Common.{◌≡◌, ◌<◌, ◌∷◌, length, ap, sym, ◌∙◌, arith}
use Rattle.std.proofs.lemmas.Result.{IfOk-weaker}
use Rattle.rob_index.specs.Forms.{Form, value_of, values_of}
use Rattle.rob_index.proofs.Faults.NestLemmas.{lt_from, lt_not}
use Rattle.rob_expand.specs.Judging.{worst, length_found, ranges_found}
use Rattle.rob_expand.proofs.Walks.FindingLemmas.{worse_both}
use Rattle.rob_judge.proofs.JudgeLemmas.{long_first, only_range, first_range}
use Rattle.rob_judge.proofs.PassingLemmas.{values_are, values_ended, values_more, values_none, values_over}
use Rattle.rob_settings.proofs.SettingsLemmas.{walk_fewer, walk_some}
use Rattle.rob_judge.proofs.judging.+judge_ranges.Goals as goal

pub judge_ranges-returns-in-len1 : goal.judge_ranges-returns-in-len1
judge_ranges-returns-in-len1 t c =
    let one : length c.args.ranges.now ≡ 1 = omega (arith, c.in-len1.len_at_least, c.in-len1.len_below) in
    record {
      found =
          IfOk-weaker c.judge_length.result _ _
          (λ b e. e ∙ only_range c.args.ranges.now c.args.values.now c.range-item.result one c.range-item.is)
          c.judge_length.ensures.found;
    }

pub judge_ranges-returns-in-len1-up : goal.judge_ranges-returns-in-len1-up
judge_ranges-returns-in-len1-up t c =
    let some : 0 < length c.args.ranges.now = omega (arith, c.in-len1-up.len_at_least) in
    record {
      found =
          IfOk-weaker c.judge_inner.result _ _
          (λ b e.
          e ∙ first_range c.args.ranges.now c.args.values.now c.range-item-2.result some c.range-item-2.is)
          c.judge_inner.ensures.found;
    }

pub judge_inner-returns-then-is_too_long : goal.judge_inner-returns-then-is_too_long
judge_inner-returns-then-is_too_long t c =
    let vs = c.args.values.now in
    record {
      found =
          long_first c.in_ok-found.found (length_found c.args.range.now vs)
          (worst (λ v. ranges_found c.args.inner.now (v ∷ vs)) (values_of c.args.range.now vs))
          c.in_ok-found.ensures.found (sym c.is_too_long.ensures.is ∙ c.if-is_too_long.true);
    }

pub judge_inner-returns : goal.judge_inner-returns
judge_inner-returns t c =
    let r = c.args.range.now in
    let vs = c.args.values.now in
    let from = c.in_ok-from.ensures.value ∙ ap (λ (f : Form). value_of f vs) c.from.ensures.from in
    let upto = c.in_ok-upto.ensures.value ∙ ap (λ (f : Form). value_of f vs) c.upto.ensures.upto in
    record {
      found =
          c.worse.ensures.worse
          ∙ worse_both c.in_ok-found.ensures.found
          (c.in_ok-here.ensures.found ∙ values_are r c.args.inner.now vs _ _ from upto);
    }

pub judge_values-returns-in_default : goal.judge_values-returns-in_default
judge_values-returns-in_default t c =
    let none = values_none c.args.upto.now c.args.inner.now c.args.values.now c.values.value c.in_ok-live.field-0
    c.in_default.is c.in_ok-live.ensures.live in
    record { found = values_ended c.values.found _ none c.values.invariant }

pub judge_values-returns-then-branch : goal.judge_values-returns-then-branch
judge_values-returns-then-branch t c =
    let some = walk_some c.args.upto.now c.args.inner.now c.args.values.now c.values.value c.in-Some.live
    c.in_ok-live.field-0 c.in-Some.is c.in_ok-live.ensures.live in
    let none = values_over c.args.upto.now c.args.inner.now c.args.values.now c.values.value c.in-Some.live
    some.0 some.1 (lt_from c.args.upto.now c.in-Some.live (sym c.in_ok-is_less.ensures.less ∙ c.if-branch.true)) in
    record { found = values_ended c.values.found _ none c.values.invariant }

pub judge_values-values-smaller : goal.judge_values-values-smaller
judge_values-values-smaller t c =
    let some = walk_some c.args.upto.now c.args.inner.now c.args.values.now c.values.value c.in-Some.live
    c.in_ok-live.field-0 c.in-Some.is c.in_ok-live.ensures.live in
    walk_fewer c.args.upto.now c.args.inner.now c.args.values.now c.values.value c.in-Some.live c.in_ok-value.value
    some.0
    (lt_not c.args.upto.now c.in-Some.live (sym c.in_ok-is_less.ensures.less ∙ c.if-branch.false))
    c.in_ok-value.ensures.next

pub judge_values-values-preserved : goal.judge_values-values-preserved
judge_values-values-preserved t c =
    let some = walk_some c.args.upto.now c.args.inner.now c.args.values.now c.values.value c.in-Some.live
    c.in_ok-live.field-0 c.in-Some.is c.in_ok-live.ensures.live in
    let within = lt_not c.args.upto.now c.in-Some.live (sym c.in_ok-is_less.ensures.less ∙ c.if-branch.false) in
    values_more c.args.upto.now c.args.inner.now c.args.values.now c.values.value c.in-Some.live some.0 some.1
    c.values.found c.in_ok-here.here c.worse-found.result c.in_ok-value.value within c.in_ok-value.ensures.next
    (c.in_ok-here.ensures.found
    ∙ ap (ranges_found c.args.inner.now) (c.items.ensures.list ∙ c.in_ok-inside.ensures.values))
    c.worse-found.ensures.worse c.values.invariant
