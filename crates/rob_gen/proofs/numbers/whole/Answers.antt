use Rattle.rob_gen.proofs.NumberLemmas.{whole_kept}
use Rattle.rob_gen.proofs.numbers.whole.Goals as goal

pub unreachable-requires : goal.unreachable-requires
unreachable-requires g c =
    let k = whole_kept g.N.Exact.limit c.args.number g.met.N.Exact.limit_high g.met.N.Exact.limit_low c.requires.fits in
    cc (c.in-Err.ensures.exact)

pub returns-clause-value : goal.returns-clause-value
returns-clause-value g c =
    let k = whole_kept g.N.Exact.limit c.args.number g.met.N.Exact.limit_high g.met.N.Exact.limit_low c.requires.fits in
    cc (c.in-Ok.ensures.exact)
