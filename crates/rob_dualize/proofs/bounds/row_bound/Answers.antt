use Rattle.std.proofs.Common.{◌∙◌, arith}
use Rattle.rob_sets.proofs.WholeRows.ClearingSteps.{cast_back}
use Rattle.rob_dualize.proofs.RowBoundLemmas.{told_of}
use Rattle.rob_dualize.proofs.bounds.row_bound.Goals as goal

pub returns : goal.returns
returns g c =
    let limit = g.N.Exact.limit in
    record {
      bound = told_of limit _ c.greatest-size.result c.rows-rows.result (g.R.Rows.lp c.args.source.now)
          c.bound_of.result
          (cast_back c.LIMIT.result limit (c.LIMIT.ensures ∙ g.met.N.Exact.limit_told)
          (omega (arith, g.met.N.Exact.limit_high)))
          (g.met.R.Rows.shaped c.args.source.now c.requires.ready) c.greatest-size.ensures.greatest
          c.rows-rows.ensures.count c.bound_of.ensures.bound;
    }
