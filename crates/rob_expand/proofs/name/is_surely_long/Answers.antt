use Rattle.std.proofs.Common.{length}
use Rattle.std.proofs.lemmas.Bool.{ltb-true}
use Rattle.rob_syntax.specs.Known.{texts}
use Rattle.rob_expand.proofs.Expanding.PrintLemmas.{long_word}
use Rattle.rob_expand.proofs.name.is_surely_long.Goals as goal

pub returns : goal.returns
returns c = record {
  long = λ told vs.
      long_word (texts c.args.own.now.keys) c.args.name.now vs c.word_at.result.now c.word_at.ensures.word
      (ltb-true 32 (length c.word_at.result.now) told);
}
