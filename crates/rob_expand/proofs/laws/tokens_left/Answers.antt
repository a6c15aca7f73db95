use Rattle.std.proofs.Common.{ap, ◌∙◌}
use Rattle.rob_expand.specs.Lines.{rest_of}
use Rattle.rob_expand.proofs.Counting.CountLemmas.{tree_left_is}
use Rattle.rob_expand.proofs.Counting.LinesLemmas.{rest_is}
use Rattle.rob_expand.proofs.laws.tokens_left.Goals as goal

pub returns : goal.returns
returns c = record {
  tokens = λ limit words print p vs room. ap rest_of (tree_left_is limit words print p vs room) ∙ rest_is _ _;
}
