use Rattle.rob_round_trip.proofs.Canonical.RoundTrip.{round_trip}
use Rattle.rob_round_trip.proofs.laws.round_trip.Goals as goal

pub returns : goal.returns
returns c = record { again = round_trip }
