use Rattle.rob_round_trip.proofs.Lengths.CountedLines.{line_counted, lines_counted}
use Rattle.rob_round_trip.proofs.laws.counted_lines.Goals as goal

pub returns : goal.returns
returns c = record { line = line_counted; lines = lines_counted }
