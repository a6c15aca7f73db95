use Rattle.rob_cert.proofs.Readers.EntryLemmas.{not_zero}
use Rattle.rob_cert.proofs.Readers.CoverLemmas.{four_are}
use Rattle.rob_cert.proofs.covers.read_cover.Goals as goal

pub returns-in-Some-read_number-clause-cover : goal.returns-in-Some-read_number-clause-cover
returns-in-Some-read_number-clause-cover g c =
    let f = c.in-Some-find_pair.ensures.found in
    record {
      is = four_are _ _ _ _ _ _ _ _ _ c.requires.first.0 c.requires.first.1 c.in-Some.ensures.words f.form_is f.row_is
          c.in-Some-read_number.ensures.number;
      ordered = f.ordered;
      form_named = f.form_named;
      row_named = f.row_named;
      not_zero = not_zero c.in-Some.words.fourth.now _ c.is_zero_word.result c.if-is_zero_word.false
          c.is_zero_word.ensures.zero c.in-Some-read_number.ensures.number;
    }
