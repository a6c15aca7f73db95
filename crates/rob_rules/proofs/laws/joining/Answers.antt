use Rattle.rob_rules.proofs.Joining.JoinLemmas.{reading_append, breaking_behind}
use Rattle.rob_rules.proofs.laws.joining.Goals as goal

pub returns : goal.returns
returns c = record { reading = reading_append; breaking = breaking_behind }
