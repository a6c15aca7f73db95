use Rattle.rob_round_trip.proofs.Lengths.ShallowTexts.{read_low, text_low}
use Rattle.rob_round_trip.proofs.versions.shallow_texts.Goals as goal

pub returns : goal.returns
returns c = record {
  lines = λ text tokens version words are. text_low version words text tokens are;
  read = λ text tokens words are. read_low text words tokens are;
}
