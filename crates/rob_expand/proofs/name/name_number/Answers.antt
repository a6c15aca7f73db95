use Rattle.std.proofs.Common.{ap, ◌∙◌, List}
use Rattle.std.specs.Prelude.{ℤ}
use Rattle.std.proofs.lemmas.Result.{IfOk-weaker}
use Rattle.rob_syntax.specs.Known.{texts}
use Rattle.rob_syntax.specs.Symbols.{number_of}
use Rattle.rob_expand.specs.Growing.{named_at}
use Rattle.rob_expand.proofs.name.name_number.Goals as goal

pub returns : goal.returns
returns c = record {
  number =
      IfOk-weaker c.name_number_inside.result _ _
      (λ n e. e
      ∙ ap (λ (vs : List ℤ). number_of (texts c.args.words.now.keys)
      (named_at (texts c.args.own.now.keys) c.args.name.now vs))
      c.of-values.ensures.values) c.name_number_inside.ensures.number;
}
