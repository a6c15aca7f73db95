use Rattle.rob_entries.proofs.MapLemmas.{negated_test}
use Rattle.rob_entries.proofs.updates.mark_of.Goals as goal

pub returns : goal.returns
returns g c = record { off = negated_test c.is_zero.result c.is_zero.ensures.zero }
