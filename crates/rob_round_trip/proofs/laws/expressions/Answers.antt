use Rattle.rob_round_trip.proofs.ReadBack.ExpressionText.{read_back}
use Rattle.rob_round_trip.proofs.laws.expressions.Goals as goal

pub returns : goal.returns
returns c = record { read = read_back }
