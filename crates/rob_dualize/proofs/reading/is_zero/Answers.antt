use Rattle.rob_dualize.proofs.ReadingLemmas.{zero_test}
use Rattle.rob_dualize.proofs.reading.is_zero.Goals as goal

pub returns : goal.returns
returns g c = record { zero = zero_test c.sign.result c.sign.type_inv c.sign.ensures.zero }
