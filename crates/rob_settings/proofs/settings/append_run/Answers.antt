use Rattle.std.proofs.Common.{[], ◌∷◌, length, sym, ◌∙◌}
use Rattle.std.proofs.lemmas.Result.{err_from_is_err_and}
use Rattle.rob_index.proofs.Faults.NestLemmas.{lt_from, lt_not}
use Rattle.rob_settings.specs.Room.{left_of}
use Rattle.rob_settings.specs.Settings.{between}
use Rattle.rob_settings.proofs.AnswerLemmas.{refused}
use Rattle.rob_settings.proofs.SettingsLemmas.{between_none, walk_ended, walk_made}
use Rattle.rob_settings.proofs.RunLemmas.{run_appended, run_fewer, run_left, run_stop}
use Rattle.rob_settings.proofs.settings.append_run.Goals as goal

pub returns-then-branch : goal.returns-then-branch
returns-then-branch c =
    let l = c.values in
    let vs = c.args.around.now ∷ c.args.values.now in
    let e = between_none c.args.ends.upto [] vs l.value
    (lt_from c.args.ends.upto l.value (sym c.in_ok-is_less.ensures.less ∙ c.if-branch.true)) in
    record {
      appended = walk_made c.args.ends.upto [] vs l.value l.settings e l.invariant.appended;
      left = walk_ended c.args.ends.upto [] vs l.value l.left e l.invariant.left;
    }

pub returns-in_err-left-clause-left : goal.returns-in_err-left-clause-left
returns-in_err-left-clause-left c =
    let l = c.values in
    let vs = c.args.around.now ∷ c.args.values.now in
    let within = lt_not c.args.ends.upto l.value (sym c.in_ok-is_less.ensures.less ∙ c.if-branch.false) in
    let p = err_from_is_err_and c.from_residual-in_err-left.result c.from_residual-in_err-left.ensures.1 in
    refused c.from_residual-in_err-left.result _ (left_of 1 l.left)
    (left_of (length (between c.args.ends.from c.args.ends.upto [] vs)) c.args.room)
    c.in_err-left.field-0.0 p.0 p.1 p.2
    (λ none. run_stop c.args.ends.upto vs l.value within l.left l.invariant.left none)
    c.in_err-left.ensures.left

pub values-smaller : goal.values-smaller
values-smaller c =
    let l = c.values in
    let within = lt_not c.args.ends.upto l.value (sym c.in_ok-is_less.ensures.less ∙ c.if-branch.false) in
    run_fewer c.args.ends.upto (c.args.around.now ∷ c.args.values.now) l.value within c.in_ok-value.value
    c.in_ok-value.ensures.next

pub values-preserved : goal.values-preserved
values-preserved c =
    let l = c.values in
    let vs = c.args.around.now ∷ c.args.values.now in
    let within = lt_not c.args.ends.upto l.value (sym c.in_ok-is_less.ensures.less ∙ c.if-branch.false) in
    record {
      appended =
          run_appended c.args.ends.upto vs l.value within l.settings c.push.new.self c.in_ok-two_in_front.field-0
          c.in_ok-value.value c.in_ok-value.ensures.next c.in_ok-push.ensures.appended c.in_ok-two_in_front.ensures.all
          l.invariant.appended;
      left =
          run_left c.args.ends.upto vs l.value within l.left c.in_ok-left.left c.in_ok-value.value
          c.in_ok-value.ensures.next c.in_ok-left.ensures.left l.invariant.left;
    }
