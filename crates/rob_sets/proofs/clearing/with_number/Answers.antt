use Rattle.std.proofs.Common.{arith, ◌∙◌}
use Rattle.rob_sets.proofs.WholeRows.ClearingSteps.{cast_back, multiple_as}
use Rattle.rob_sets.proofs.clearing.with_number.Goals as goal

pub returns : goal.returns
returns g c =
    let den = cast_back c.den.result (g.N.Exact.value c.args.q).den c.den.ensures.denominator
    (omega (arith, (g.met.N.Exact.fits c.args.q).den_fits, g.met.N.Exact.limit_high)) in
    let limit =
    cast_back c.LIMIT.result g.N.Exact.limit (c.LIMIT.ensures ∙ g.met.N.Exact.limit_told)
    (omega (arith, g.met.N.Exact.limit_high)) in
    record {
      multiple = multiple_as _ c.args.common (g.N.Exact.value c.args.q).den _ g.N.Exact.limit
          c.common_multiple.result den limit c.common_multiple.ensures.multiple;
    }
