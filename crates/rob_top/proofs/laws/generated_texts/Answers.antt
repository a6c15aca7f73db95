use Rattle.rob_top.proofs.Relations.GeneratedTexts.{first_is, text_is_read}
use Rattle.rob_top.proofs.laws.generated_texts.Goals as goal

pub returns : goal.returns
returns c = record { read = λ n limit high wide. text_is_read limit high wide n; first = first_is }
