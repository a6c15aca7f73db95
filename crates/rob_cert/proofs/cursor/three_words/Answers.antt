use Rattle.std.proofs.Common.{arith}
use Rattle.rob_cert.proofs.Words.WordLemmas.{count_lacks, count_split, words_split}
use Rattle.rob_cert.proofs.cursor.three_words.Goals as goal

pub returns-in-None : goal.returns-in-None
returns-in-None c = record { words = count_lacks c.args.line.now 3 c.in-None.ensures.cut (omega arith) }

pub returns-in-None-two_words : goal.returns-in-None-two_words
returns-in-None-two_words c = record {
  words = count_split c.args.line.now c.in-Some.split.front.now c.in-Some.split.back.now 2 c.in-Some.ensures.cut.0
      c.in-Some.ensures.cut.1 c.in-None-two_words.ensures.words;
}

pub returns-in-Some-two_words : goal.returns-in-Some-two_words
returns-in-Some-two_words c = record {
  words = words_split c.args.line.now c.in-Some.split.front.now c.in-Some.split.back.now _ c.in-Some.ensures.cut.0
      c.in-Some.ensures.cut.1 c.in-Some-two_words.ensures.words;
}
