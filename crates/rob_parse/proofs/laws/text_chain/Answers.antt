use Rattle.rob_parse.proofs.Chains.TextChains.{text_chain, text_words}
use Rattle.rob_parse.proofs.laws.text_chain.Goals as goal

pub returns : goal.returns
returns c = record {
  chain = text_chain;
  words = λ limit text words list known read.
      let w = text_words limit text words list known read in (w.distinct, (w.are, w.plain));
}
