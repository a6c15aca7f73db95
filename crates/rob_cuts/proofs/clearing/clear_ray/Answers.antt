use Rattle.std.proofs.Common.{map, arith}
use Rattle.rob_sets.proofs.WholeRows.ClearingSteps.{whole_wide}
use Rattle.rob_cuts.proofs.RayLemmas.{denominator_wide, each_den, square_small, wide_at_denominator}
use Rattle.rob_cuts.proofs.clearing.clear_ray.Goals as goal

pub returns-in_default-clause-wide : goal.returns-in_default-clause-wide
returns-in_default-clause-wide g c =
    denominator_wide g.N.Exact.limit (map g.N.Exact.value c.args.ray.now)
    (each_den g.N.Exact.value g.N.Exact.limit (λ x. (g.met.N.Exact.fits x).den_fits) c.args.ray.now)
    g.met.N.Exact.limit_low
    (omega (arith, square_small g.N.Exact.limit g.met.N.Exact.limit_high, c.in_default.ensures.least))

pub returns-in-None-clause-wide : goal.returns-in-None-clause-wide
returns-in-None-clause-wide g c =
    wide_at_denominator g.N.Exact.limit c.in-Some.common (map g.N.Exact.value c.args.ray.now) c.in-Some.ensures.least.0
    (whole_wide g.N.Exact.value c.args.ray.now c.loop-q.q-index c.q-item.result g.N.Exact.limit c.in-Some.common
    c.loop-q-test.true c.q-item.is c.in-None.ensures.whole)
