use Rattle.std.proofs.Common.{◌++◌, ap, ◌∙◌, to_z-of_z}
use Rattle.std.specs.Fmt.{signed_decimal}
use Rattle.std.proofs.lemmas.Result.{on_ok_weaker}
use Rattle.rob_commands.specs.Answers.{branch_relation}
use Rattle.rob_commands.proofs.PathTextLemmas.{bound_text}
use Rattle.rob_commands.proofs.paths.put_bound.Goals as goal

pub returns : goal.returns
returns c = record {
  appended = on_ok_weaker c.push-2.result
      (λ last. bound_text (branch_relation c.args.at_most) (signed_decimal c.args.k) c.args.out.now _ _ _
      (c.in_ok-push.ensures.appended ∙ ap (λ w. c.args.out.now ++ w) c.relation.ensures.words)
      (c.in_ok-put_whole.ensures.appended ∙ ap (λ z. c.push.new.self ++ signed_decimal z) (to_z-of_z c.ranges.k)) last)
      c.push-2.ensures.appended;
}
