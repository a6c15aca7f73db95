use Rattle.rob_round_trip.proofs.Written.ReadModels.{readable}
use Rattle.rob_round_trip.proofs.laws.readable.Goals as goal

pub returns : goal.returns
returns c = record { model = readable }
