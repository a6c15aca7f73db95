use Rattle.std.proofs.Common.{◌∷◌, ◌++◌, length, List, ap, sym, ◌∙◌}
use Rattle.std.specs.Prelude.{ℤ}
use Rattle.std.proofs.lemmas.Result.{err_from_is_err_and, on_ok_weaker}
use Rattle.rob_index.specs.Forms.{extensions}
use Rattle.rob_index.proofs.Faults.NestLemmas.{lt_from, lt_not}
use Rattle.rob_settings.specs.Room.{left_of}
use Rattle.rob_settings.specs.Settings.{between}
use Rattle.rob_settings.proofs.AnswerLemmas.{refused, moved, value_read}
use Rattle.rob_settings.proofs.RunLemmas.{last_range}
use Rattle.rob_settings.proofs.SettingsLemmas.{between_none, walk_none, walk_some, walk_fewer, walk_appended, walk_left, walk_stop, walk_over, walk_made, walk_ended, first_range}
use Rattle.rob_settings.proofs.settings.+walk.Goals as goal

pub append_settings-returns-in_ok-upto-in-len1-up-clause-left :
    goal.append_settings-returns-in_ok-upto-in-len1-up-clause-left
append_settings-returns-in_ok-upto-in-len1-up-clause-left t c =
    moved c.append_values.result _ _
    (first_range c.args.ranges.now c.args.values.now c.range-item.result c.in_ok-from-in-len1-up.from
    c.in_ok-upto-in-len1-up.upto c.args.room c.in-len1-up.len_at_least c.range-item.is
    (value_read c.args.values.now c.in_ok-from-in-len1-up.ensures.value c.from.ensures.from)
    (value_read c.args.values.now c.in_ok-upto-in-len1-up.ensures.value c.upto.ensures.upto))
    c.append_values.ensures.left

pub append_values-returns-then-branch : goal.append_values-returns-then-branch
append_values-returns-then-branch t c =
    let e = between_none c.args.ends.upto c.args.inner.now c.args.values.now c.values.value
    (lt_from c.args.ends.upto c.values.value (sym c.in_ok-is_less.ensures.less ∙ c.if-branch.true)) in
    let l = c.values in
    record {
      appended = walk_made c.args.ends.upto c.args.inner.now c.args.values.now l.value l.settings e
          l.invariant.appended;
      left = walk_ended c.args.ends.upto c.args.inner.now c.args.values.now l.value l.left e l.invariant.left;
    }

pub append_values-returns-in_default : goal.append_values-returns-in_default
append_values-returns-in_default t c =
    let e = walk_none c.args.ends.upto c.args.inner.now c.args.values.now c.values.value c.in_ok-live.field-0
    c.in_default.is c.in_ok-live.ensures.live in
    let l = c.values in
    record {
      appended = walk_made c.args.ends.upto c.args.inner.now c.args.values.now l.value l.settings e
          l.invariant.appended;
      left = walk_ended c.args.ends.upto c.args.inner.now c.args.values.now l.value l.left e l.invariant.left;
    }

pub append_values-returns-then-branch-2 : goal.append_values-returns-then-branch-2
append_values-returns-then-branch-2 t c =
    let some = walk_some c.args.ends.upto c.args.inner.now c.args.values.now c.values.value c.in-Some.live
    c.in_ok-live.field-0 c.in-Some.is c.in_ok-live.ensures.live in
    let e = walk_over c.args.ends.upto c.args.inner.now c.args.values.now c.values.value c.in-Some.live some.0 some.1
    (lt_from c.args.ends.upto c.in-Some.live (sym c.in_ok-is_less-2.ensures.less ∙ c.if-branch-2.true)) in
    let l = c.values in
    record {
      appended = walk_made c.args.ends.upto c.args.inner.now c.args.values.now l.value l.settings e
          l.invariant.appended;
      left = walk_ended c.args.ends.upto c.args.inner.now c.args.values.now l.value l.left e l.invariant.left;
    }

pub append_values-returns-in_err-left-clause-left : goal.append_values-returns-in_err-left-clause-left
append_values-returns-in_err-left-clause-left t c =
    let some = walk_some c.args.ends.upto c.args.inner.now c.args.values.now c.values.value c.in-Some.live
    c.in_ok-live.field-0 c.in-Some.is c.in_ok-live.ensures.live in
    let within = lt_not c.args.ends.upto c.in-Some.live (sym c.in_ok-is_less-2.ensures.less ∙ c.if-branch-2.false) in
    let p = err_from_is_err_and c.from_residual-in_err-left.result c.from_residual-in_err-left.ensures.1 in
    refused c.from_residual-in_err-left.result _
    (left_of (length (extensions c.args.inner.now (c.in-Some.live ∷ c.args.values.now))) c.values.left)
    (left_of (length (between c.args.ends.from c.args.ends.upto c.args.inner.now c.args.values.now)) c.args.room)
    c.in_err-left.field-0.0 p.0 p.1 p.2
    (λ none. walk_stop c.args.ends.upto c.args.inner.now c.args.values.now c.values.value c.in-Some.live some.0 some.1
    c.values.left within c.values.invariant.left none) c.in_err-left.ensures.left

pub append_values-values-smaller : goal.append_values-values-smaller
append_values-values-smaller t c =
    let some = walk_some c.args.ends.upto c.args.inner.now c.args.values.now c.values.value c.in-Some.live
    c.in_ok-live.field-0 c.in-Some.is c.in_ok-live.ensures.live in
    walk_fewer c.args.ends.upto c.args.inner.now c.args.values.now c.values.value c.in-Some.live c.in_ok-value.value
    some.0 (lt_not c.args.ends.upto c.in-Some.live (sym c.in_ok-is_less-2.ensures.less ∙ c.if-branch-2.false))
    c.in_ok-value.ensures.next

pub append_values-values-preserved : goal.append_values-values-preserved
append_values-values-preserved t c =
    let some = walk_some c.args.ends.upto c.args.inner.now c.args.values.now c.values.value c.in-Some.live
    c.in_ok-live.field-0 c.in-Some.is c.in_ok-live.ensures.live in
    let within = lt_not c.args.ends.upto c.in-Some.live (sym c.in_ok-is_less-2.ensures.less ∙ c.if-branch-2.false) in
    record {
      appended =
          walk_appended c.args.ends.upto c.args.inner.now c.args.values.now c.values.value c.in-Some.live some.0 some.1
          c.values.settings c.append_at.new.settings c.in_ok-value.value within c.in_ok-value.ensures.next
          c.in_ok-left.ensures.appended c.values.invariant.appended;
      left =
          walk_left c.args.ends.upto c.args.inner.now c.args.values.now c.values.value c.in-Some.live some.0 some.1
          c.values.left c.in_ok-left.left c.in_ok-value.value within c.in_ok-value.ensures.next
          c.in_ok-left.ensures.left c.values.invariant.left;
    }

pub append_at-returns-in_ok-upto-in-len1 : goal.append_at-returns-in_ok-upto-in-len1
append_at-returns-in_ok-upto-in-len1 t c =
    let inside = c.args.value.now ∷ c.args.values.now in
    let same = last_range c.args.inner.now inside c.range-item.result c.in_ok-from-in-len1.from
    c.in_ok-upto-in-len1.upto c.in-len1.len_at_least c.in-len1.len_below c.range-item.is
    (value_read inside c.in_ok-from-in-len1.ensures.value c.from.ensures.from)
    (value_read inside c.in_ok-upto-in-len1.ensures.value c.upto.ensures.upto) in
    record {
      appended =
          on_ok_weaker c.append_run.result
          (λ made. made ∙ ap (λ (l : List (List ℤ)). c.args.settings.now ++ l) same) c.append_run.ensures.appended;
      left =
          moved c.append_run.result _ _ (ap (λ (l : List (List ℤ)). left_of (length l) c.args.room) same)
          c.append_run.ensures.left;
    }
