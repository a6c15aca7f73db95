use Rattle.rob_cert.proofs.Readers.EntryLemmas.{not_zero, three_are}
use Rattle.rob_cert.proofs.entry.read_entry.Goals as goal

pub returns-in-Some-read_number-clause-entry : goal.returns-in-Some-read_number-clause-entry
returns-in-Some-read_number-clause-entry g c =
    let f = c.in-Some-find_entry.ensures.found in
    record {
      is = three_are _ _ _ _ _ _ _ c.requires.first.0 c.requires.first.1 c.in-Some.ensures.words f.2
          c.in-Some-read_number.ensures.number;
      ordered = f.0;
      named = f.1;
      not_zero = not_zero c.in-Some.words.third.now _ c.is_zero_word.result c.if-is_zero_word.false
          c.is_zero_word.ensures.zero c.in-Some-read_number.ensures.number;
    }
