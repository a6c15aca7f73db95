use Rattle.std.proofs.Common.{◌≡◌, ◌∙◌, ◌<◌, arith, nat_abs, pos, to_z, of_z, w64}
use Rattle.std.proofs.lemmas.Int.{ints}
use lib.Signed.{◌<ℤ◌}
use Rattle.rob_number.proofs.CastLemmas.{limit_seen}
use Rattle.rob_simplex.proofs.Telling.Quotients.{of_pair_fits}
use Rattle.rob_simplex.proofs.solution.fits.Goals as goal

pub returns-then-size-limit-2-clause-fits : goal.returns-then-size-limit-2-clause-fits
returns-then-size-limit-2-clause-fits g c =
    let e : nat_abs (to_z w64 (of_z w64 c.LIMIT-limit.result)) ≡ g.N.Exact.limit =
    limit_seen c.LIMIT-limit.result g.N.Exact.limit (c.LIMIT-limit.ensures ∙ g.met.N.Exact.limit_told)
    g.met.N.Exact.limit_high in
    let p : 0 < nat_abs (g.E.Entry.value c.args.denominator) =
    (let h : pos 0 <ℤ g.E.Entry.value c.args.denominator = c.requires.positive in omega (arith, ints)) in
    of_pair_fits g.N.Exact.limit (g.E.Entry.value c.args.numerator) (nat_abs (g.E.Entry.value c.args.denominator)) p
    (omega (arith, e, c.if-size-limit.true, c.size.ensures.size))
    (omega (arith, e, c.if-size-limit-2.true, c.size-then-size-limit.ensures.size))
