use Rattle.std.proofs.Common.{◌≡◌, ap, ◌∙◌, Some, Ok, w64}
use mir.Val.{to_z, of_z}
use Rattle.rob_number.proofs.CastLemmas.{seen}
use Rattle.rob_cert.proofs.Words.NumberLemmas.{whole_is_text, whole_parsed}
use Rattle.rob_cert.proofs.number.read_whole.Goals as goal

pub returns-in-Err : goal.returns-in-Err
returns-in-Err c = record { whole = λ z h e. absurd (c.in-Err.ensures.cases.0 (whole_is_text z c.args.word.now h e)) }

pub returns-in-Err-parse : goal.returns-in-Err-parse
returns-in-Err-parse c = record {
  whole = λ z h e. let p : c.parse.result ≡ Ok z =
      whole_parsed z c.in-Ok.text.now c.parse.result h (c.in-Ok.ensures.cases.0 ∙ e) c.parse.ensures.value.0 in cc;
}

pub returns-in-Ok-parse : goal.returns-in-Ok-parse
returns-in-Ok-parse c = record {
  whole = λ z h e.
      let p : c.parse.result ≡ Ok z =
      whole_parsed z c.in-Ok.text.now c.parse.result h (c.in-Ok.ensures.cases.0 ∙ e) c.parse.ensures.value.0 in
      let q : c.in-Ok-parse.whole ≡ z = cc in
      ap Some (ap (λ x. to_z w64 (of_z w64 x)) q ∙ seen z h);
}
