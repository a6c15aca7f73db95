use Rattle.std.proofs.Common.{arith}
use Rattle.rob_cert.proofs.Words.WordLemmas.{count_lacks, count_more, words_in-lacks, words_split}
use Rattle.rob_cert.proofs.cursor.two_words.Goals as goal

pub returns-in-None : goal.returns-in-None
returns-in-None c = record { words = count_lacks c.args.line.now 2 c.in-None.ensures.cut (omega arith) }

pub returns-in-None-split_byte : goal.returns-in-None-split_byte
returns-in-None-split_byte c = record {
  words = words_split c.args.line.now c.in-Some.split.front.now c.in-Some.split.back.now _ c.in-Some.ensures.cut.0
      c.in-Some.ensures.cut.1 (words_in-lacks c.in-Some.split.back.now c.in-None-split_byte.ensures.cut);
}

pub returns-in-Some-split_byte : goal.returns-in-Some-split_byte
returns-in-Some-split_byte c = record {
  words = count_more c.args.line.now c.in-Some.split.front.now c.in-Some.split.back.now _ _ c.in-Some.ensures.cut.0
      c.in-Some.ensures.cut.1 c.in-Some-split_byte.ensures.cut.0 c.in-Some-split_byte.ensures.cut.1;
}
