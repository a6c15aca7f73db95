use Rattle.rob_split_text.proofs.SplitReading.{split_text_few, split_text_reads}
use Rattle.rob_split_text.proofs.laws.split_reading.Goals as goal

pub returns : goal.returns
returns c = record { read = split_text_reads; few = split_text_few }
