use Rattle.rob_rules.proofs.Joining.LinkLemmas.{read_linked, read_among}
use Rattle.rob_rules.proofs.laws.linked.Goals as goal

pub returns : goal.returns
returns c = record { linked = read_linked; names = read_among }
