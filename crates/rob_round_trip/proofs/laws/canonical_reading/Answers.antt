use Rattle.rob_round_trip.proofs.Canonical.CanonicalReading.{canonical_reads}
use Rattle.rob_round_trip.proofs.laws.canonical_reading.Goals as goal

pub returns : goal.returns
returns c = record { read = canonical_reads }
