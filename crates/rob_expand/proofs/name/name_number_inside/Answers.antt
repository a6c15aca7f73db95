use Rattle.std.proofs.Common.{ap, ◌∙◌}
use Rattle.rob_syntax.specs.Known.{texts}
use Rattle.rob_syntax.specs.Symbols.{number_of}
use Rattle.rob_expand.proofs.name.name_number_inside.Goals as goal

pub returns : goal.returns
returns c = record {
  number =
      c.number_of.ensures.number
      ∙ ap (number_of (texts c.args.words.now.keys)) (c.as_slice.ensures.value ∙ c.in_ok-bytes.ensures.bytes);
}
