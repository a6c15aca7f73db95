use Rattle.rob_gen.specs.Generated.{centre}
use Rattle.rob_gen.proofs.MadeLemmas.{demand_is}
use Rattle.rob_gen.proofs.declared.demand.Goals as goal

pub returns-clause-made : goal.returns-clause-made
returns-clause-made g c =
    demand_is g.N.Exact.value (centre c.args.n) c.args.place c.centre-middle.result c.in_ok-name.name
    c.whole-lower.result c.whole-upper.result
    c.centre-middle.ensures.centre c.in_ok-name.ensures.name c.whole-lower.ensures.value c.whole-upper.ensures.value
