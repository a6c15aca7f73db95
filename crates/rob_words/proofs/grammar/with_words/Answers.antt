use Rattle.clap.specs.Words.{app_of}
use Rattle.rob_words.proofs.GrammarLemmas.{one_made, three_made, two_made}
use Rattle.rob_words.proofs.grammar.with_words.Goals as goal

pub returns-in-len1 : goal.returns-in-len1
returns-in-len1 c = record {
  grammar = one_made c.args.own.now (app_of c.args.command) c.with_word.result c.in-len1.len_at_least
      c.in-len1.len_below c.with_word.ensures.word;
}

pub returns-in_ok-with_word-in-len2 : goal.returns-in_ok-with_word-in-len2
returns-in_ok-with_word-in-len2 c = record {
  grammar = two_made c.args.own.now (app_of c.args.command) _ c.with_word-in-len2-2.result
      c.in-len2.len_at_least c.in-len2.len_below
      c.in_ok-with_word-in-len2.ensures.word c.with_word-in-len2-2.ensures.word;
}

pub returns-in_ok-command-in-len3-up-2 : goal.returns-in_ok-command-in-len3-up-2
returns-in_ok-command-in-len3-up-2 c = record {
  grammar = three_made c.args.own.now (app_of c.args.command) _ _ c.with_word-in-len3-up-3.result
      c.in-len3-up.len_at_least
      c.in_ok-command-in-len3-up.ensures.word c.in_ok-command-in-len3-up-2.ensures.word
      c.with_word-in-len3-up-3.ensures.word;
}
