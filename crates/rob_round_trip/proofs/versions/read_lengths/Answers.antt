use Rattle.rob_round_trip.proofs.Indexed.ReadLengths.{read_few, read_shallow}
use Rattle.rob_round_trip.proofs.versions.read_lengths.Goals as goal

pub returns : goal.returns
returns c = record { few = read_few; shallow = read_shallow }
