use Rattle.rob_sets.proofs.Cells.NumberLemmas.{kept_absent}
use Rattle.rob_sets.proofs.table.Table.raised.Goals as goal

pub returns-in-None-clause-exact : goal.returns-in-None-clause-exact
returns-in-None-clause-exact g c =
    kept_absent g.N.Exact.value g.N.Exact.limit c.get.result c.args.x _ c.in-None.is c.get.ensures.value
    (g.met.N.Exact.fits c.args.x)
