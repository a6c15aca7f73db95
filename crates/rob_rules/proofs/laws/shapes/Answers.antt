use Rattle.rob_rules.proofs.Joining.ShapeLemmas.{expanded_real}
use Rattle.rob_rules.proofs.laws.shapes.Goals as goal

pub returns : goal.returns
returns c = record { real = expanded_real }
