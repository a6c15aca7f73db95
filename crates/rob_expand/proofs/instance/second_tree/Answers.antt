use Rattle.std.proofs.Common.{◌∙◌}
use Rattle.std.proofs.lemmas.Result.{IfOk-weaker}
use Rattle.rob_syntax.specs.Known.{texts}
use Rattle.rob_expand.proofs.Expanding.MakeLemmas.{second_some}
use Rattle.rob_expand.proofs.instance.second_tree.Goals as goal

pub returns-in-len1-up : goal.returns-in-len1-up
returns-in-len1-up c = record {
  made =
      IfOk-weaker c.first_tree.result _ _
      (λ s e. e ∙ second_some (texts c.args.names.own.now.keys) (texts c.args.names.words.now.keys) c.args.values.now
      c.args.trees.now c.in-len1-up.len_at_least) c.first_tree.ensures.made;
}
