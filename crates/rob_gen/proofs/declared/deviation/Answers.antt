use Rattle.rob_gen.specs.Generated.{centre}
use Rattle.rob_gen.proofs.MadeLemmas.{deviation_is}
use Rattle.rob_gen.proofs.declared.deviation.Goals as goal

pub returns-clause-made : goal.returns-clause-made
returns-clause-made g c =
    deviation_is g.N.Exact.value (centre c.args.n) c.args.place c.centre-middle.result c.whole-centre.result
    c.whole-deviation.result
    c.centre-middle.ensures.centre c.whole-centre.ensures.value c.whole-deviation.ensures.value
