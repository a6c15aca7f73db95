use Rattle.std.proofs.Common.{arith}
use Rattle.rob_cert.proofs.Words.WordLemmas.{count_lacks, count_split, words_split}
use Rattle.rob_cert.proofs.cursor.four_words.Goals as goal

pub returns-in-None : goal.returns-in-None
returns-in-None c = record { words = count_lacks c.args.line.now 4 c.in-None.ensures.cut (omega arith) }

pub returns-in-None-three_words : goal.returns-in-None-three_words
returns-in-None-three_words c = record {
  words = count_split c.args.line.now c.in-Some.split.front.now c.in-Some.split.back.now 3 c.in-Some.ensures.cut.0
      c.in-Some.ensures.cut.1 c.in-None-three_words.ensures.words;
}

pub returns-in-Some-three_words : goal.returns-in-Some-three_words
returns-in-Some-three_words c = record {
  words = words_split c.args.line.now c.in-Some.split.front.now c.in-Some.split.back.now _ c.in-Some.ensures.cut.0
      c.in-Some.ensures.cut.1 c.in-Some-three_words.ensures.words;
}
