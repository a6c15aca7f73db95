use Rattle.std.proofs.Common.{◌∙◌}
use Rattle.std.proofs.lemmas.Result.{IfOk-weaker}
use Rattle.rob_syntax.specs.Known.{texts}
use Rattle.rob_expand.proofs.Expanding.MakeLemmas.{first_some}
use Rattle.rob_expand.proofs.instance.first_tree.Goals as goal

pub returns-in-len1-up : goal.returns-in-len1-up
returns-in-len1-up c = record {
  made =
      IfOk-weaker c.make_in.result _ _
      (λ s e. e ∙ first_some (texts c.args.names.own.now.keys) (texts c.args.names.words.now.keys) c.args.values.now
      c.args.trees.now c.first-item.result c.in-len1-up.len_at_least c.first-item.is) c.make_in.ensures.made;
}
