use Rattle.rob_round_trip.proofs.Indexed.NumberedCounts.{all_counted, numbered_shallow}
use Rattle.rob_round_trip.proofs.versions.numbered_lines.Goals as goal

pub returns : goal.returns
returns c = record { shallow = numbered_shallow; counted = all_counted }
