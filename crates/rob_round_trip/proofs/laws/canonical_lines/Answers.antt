use Rattle.rob_round_trip.proofs.ReadBack.LinesText.{lines_back}
use Rattle.rob_round_trip.proofs.laws.canonical_lines.Goals as goal

pub returns : goal.returns
returns c = record { read = lines_back }
