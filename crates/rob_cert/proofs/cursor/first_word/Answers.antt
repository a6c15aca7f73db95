use Rattle.std.proofs.Common.{[], refl}
use Rattle.rob_cert.proofs.Words.WordLemmas.{words_in-lacks, words_split}
use Rattle.rob_cert.specs.Reading.{words_in}
use Rattle.rob_cert.proofs.cursor.first_word.Goals as goal

pub returns-in-Some : goal.returns-in-Some
returns-in-Some c = record {
  word = (
    words_in c.in-Some.split.back.now,
    words_split c.args.line.now c.in-Some.split.front.now c.in-Some.split.back.now _ c.in-Some.ensures.cut.0
        c.in-Some.ensures.cut.1 refl,
  );
}

pub returns-in-None : goal.returns-in-None
returns-in-None c = record { word = ([], words_in-lacks c.args.line.now c.in-None.ensures.cut) }
