use Rattle.std.proofs.Common.{subst, sym, ◌<◌, ◌≤◌}
use Rattle.rob_number.proofs.PairLemmas.{written_kept}
use Rattle.rob_parse.proofs.fraction.fraction.Goals as goal

pub unreachable-requires : goal.unreachable-requires
unreachable-requires g c =
    let is = c.unwrap_or-divisor.ensures in
    let k =
    written_kept g.N.Exact.limit c.args.numeral.numerator c.unwrap_or-divisor.result g.met.N.Exact.limit_high
    c.requires.fits.numerator (subst (λ d. d ≤ g.N.Exact.limit) (sym is) c.requires.fits.divisor)
    (subst (λ d. 0 < d) (sym is) c.requires.fits.positive) in
    cc (c.in-Err.ensures.exact)

pub returns-clause-value : goal.returns-clause-value
returns-clause-value g c =
    let is = c.unwrap_or-divisor.ensures in
    let k =
    written_kept g.N.Exact.limit c.args.numeral.numerator c.unwrap_or-divisor.result g.met.N.Exact.limit_high
    c.requires.fits.numerator (subst (λ d. d ≤ g.N.Exact.limit) (sym is) c.requires.fits.divisor)
    (subst (λ d. 0 < d) (sym is) c.requires.fits.positive) in
    cc (c.in-Ok.ensures.exact, is)
