use Rattle.std.proofs.Common.{◌++◌, ap, ◌∙◌, to_z-of_z}
use Rattle.std.specs.Fmt.{signed_decimal}
use Rattle.std.proofs.lemmas.Result.{on_ok_weaker}
use Rattle.rob_meaning.specs.Names.{column_names}
use Rattle.rob_model.specs.View.{robust}
use Rattle.rob_tree.proofs.Writing.TreeWriterLemmas.{branch_line}
use Rattle.rob_tree.proofs.writer.put_branch.Goals as goal

pub returns : goal.returns
returns g c = record {
  appended = on_ok_weaker c.push-3.result
      (λ last. branch_line (column_names (robust g.N.Exact.value c.args.model.now)) c.args.column c.args.k
      c.args.out.now _ _ _ _ _
      c.in_ok-push.ensures.appended c.in_ok-put_column_name.ensures.appended c.in_ok-push-2.ensures.appended
      (c.in_ok-put_whole.ensures.appended ∙ ap (λ z. c.push-2.new.self ++ signed_decimal z) (to_z-of_z c.ranges.k))
      last)
      c.push-3.ensures.appended;
}
