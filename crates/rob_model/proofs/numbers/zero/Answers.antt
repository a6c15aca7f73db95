use Rattle.rob_model.proofs.SmallLemmas.{made_zero, zero_made}
use Rattle.rob_model.proofs.numbers.zero.Goals as goal

pub unreachable-requires : goal.unreachable-requires
unreachable-requires g c = absurd (zero_made g.N.Exact.limit g.met.N.Exact.limit_low c.in-Err.ensures.exact)

pub returns-clause-value : goal.returns-clause-value
returns-clause-value g c = made_zero g.N.Exact.limit g.met.N.Exact.limit_low _ c.in-Ok.ensures.exact
