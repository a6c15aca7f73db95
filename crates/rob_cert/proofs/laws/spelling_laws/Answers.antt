use Rattle.std.proofs.Common.{sym, ◌∙◌}
use Rattle.rob_cert.proofs.OneText.SpellingLaws as spelling
use Rattle.rob_cert.proofs.OneText.OneCertificate as one
use Rattle.rob_cert.proofs.OneText.OneBreach as breach
use Rattle.rob_cert.proofs.OneText.SomeCertificate as some
use Rattle.rob_cert.proofs.laws.spelling_laws.Goals as goal

pub returns : goal.returns
returns c = record {
  spelled_once = λ m d s t h k. h.spelled ∙ sym k.spelled;
  breaks_none = spelling.breaks_none;
  read_once = one.read_once;
  one_cause = breach.one_cause;
  some = some.some_certificate;
}
