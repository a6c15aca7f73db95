use Rattle.std.proofs.Common.{ap, ◌∙◌}
use Rattle.rob_syntax.specs.Known.{texts}
use Rattle.rob_syntax.proofs.WordLemmas.{texts-insert_key}
use Rattle.rob_expand.proofs.name.insert.Goals as goal

pub returns : goal.returns
returns c = record {
  words = ap texts c.in_ok-insert.ensures.keys ∙ texts-insert_key c.args.words.now.keys c.args.word;
}
