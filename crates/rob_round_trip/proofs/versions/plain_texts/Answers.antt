use Rattle.rob_round_trip.proofs.Indexed.PlainTexts.{text_reads}
use Rattle.rob_round_trip.proofs.versions.plain_texts.Goals as goal

pub returns : goal.returns
returns c = record { reads = text_reads }
