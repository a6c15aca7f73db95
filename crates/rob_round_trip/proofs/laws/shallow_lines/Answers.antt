use Rattle.rob_round_trip.proofs.Lengths.LowLines.{line_shallow}
use Rattle.rob_round_trip.proofs.laws.shallow_lines.Goals as goal

pub returns : goal.returns
returns c = record { line = line_shallow }
