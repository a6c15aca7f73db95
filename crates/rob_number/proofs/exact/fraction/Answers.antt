use Rattle.rob_number.proofs.PairLemmas.{written_kept}
use Rattle.rob_number.proofs.exact.fraction.Goals as goal

pub unreachable-requires : goal.unreachable-requires
unreachable-requires g c =
    let k = written_kept g.N.Exact.limit c.args.numerator c.args.denominator g.met.N.Exact.limit_high
    c.requires.numerator c.requires.denominator c.requires.positive in
    cc (c.in-Err.ensures.exact)

pub returns-clause-value : goal.returns-clause-value
returns-clause-value g c =
    let k = written_kept g.N.Exact.limit c.args.numerator c.args.denominator g.met.N.Exact.limit_high
    c.requires.numerator c.requires.denominator c.requires.positive in
    cc (c.in-Ok.ensures.exact)
