use Rattle.std.proofs.Common.{◌^◌, [], ap, ◌∙◌, arith}
use Rattle.rob_algebra.specs.Fraction.{den_pos}
use Rattle.rob_meaning.proofs.Tables.ClearingLemmas.{lcm_pos}
use Rattle.rob_meaning.specs.Clearing.{lcm}
use Rattle.rob_sets.proofs.WholeRows.ClearingSteps.{cast_back, common_more, common_wide}
use Rattle.rob_cuts.proofs.clearing.common_denominator.Goals as goal

pub returns-in-None : goal.returns-in-None
returns-in-None g c =
    let value = g.N.Exact.value in
    let den = cast_back c.den.result (value c.q-item.result).den c.den.ensures.denominator
    (omega (arith, (g.met.N.Exact.fits c.q-item.result).den_fits, g.met.N.Exact.limit_high)) in
    record {
      least = common_wide value [] c.args.ray.now c.loop-q.q-index c.q-item.result c.loop-q.least (2 ^ 124)
          c.loop-q-test.true c.q-item.is
          c.loop-q.invariant.least (omega (arith, ap (λ n. lcm n c.loop-q.least) den, c.in-None.ensures.multiple));
    }

pub loop-q-preserved : goal.loop-q-preserved
loop-q-preserved g c =
    let value = g.N.Exact.value in
    let den = cast_back c.den.result (value c.q-item.result).den c.den.ensures.denominator
    (omega (arith, (g.met.N.Exact.fits c.q-item.result).den_fits, g.met.N.Exact.limit_high)) in
    let is = c.in-Some.ensures.multiple.0 ∙ ap (λ n. lcm n c.loop-q.least) den in
    record {
      least = common_more value [] c.args.ray.now c.loop-q.q-index c.q-item.result c.loop-q.least c.in-Some.multiple
          c.loop-q-test.true c.q-item.is
          c.loop-q.invariant.least is;
      positive = omega (
        arith,
        is,
        lcm_pos (value c.q-item.result).den c.loop-q.least
            (den_pos (value c.q-item.result)) c.loop-q.invariant.positive,
      );
      small = c.in-Some.ensures.multiple.1;
    }
