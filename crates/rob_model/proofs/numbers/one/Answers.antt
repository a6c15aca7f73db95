use Rattle.rob_model.proofs.SmallLemmas.{made_one, one_made}
use Rattle.rob_model.proofs.numbers.one.Goals as goal

pub unreachable-requires : goal.unreachable-requires
unreachable-requires g c = absurd (one_made g.N.Exact.limit g.met.N.Exact.limit_low c.in-Err.ensures.exact)

pub returns-clause-value : goal.returns-clause-value
returns-clause-value g c = made_one g.N.Exact.limit g.met.N.Exact.limit_low _ c.in-Ok.ensures.exact
