use Rattle.rob_round_trip.proofs.Known.KnownNames.{ends_in_sets, has_by_name, known}
use Rattle.rob_round_trip.proofs.laws.known.Goals as goal

pub returns : goal.returns
returns c = record { names = known; things = has_by_name; over = ends_in_sets }
