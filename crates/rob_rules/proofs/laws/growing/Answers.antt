use Rattle.rob_rules.proofs.Joining.GrowingLemmas.{statement_grows}
use Rattle.rob_rules.proofs.Joining.WideLemmas.{fault_same}
use Rattle.rob_rules.proofs.laws.growing.Goals as goal

pub returns : goal.returns
returns c = record { numbers = statement_grows; faults = fault_same }
