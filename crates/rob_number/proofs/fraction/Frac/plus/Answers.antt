use Rattle.std.proofs.Common.{◌∙◌, ap, arith}
use Rattle.rob_algebra.specs.Width.{kept}
use Rattle.rob_number.specs.Lowest.{limit_of}
use Rattle.rob_number.specs.Frac.{value_of}
use Rattle.rob_number.proofs.CastLemmas.{seen_wide}
use Rattle.rob_algebra.proofs.Parts.{add-cross}
use Rattle.rob_number.proofs.fraction.Frac.plus.Goals as goal

pub returns : goal.returns
returns g c = record {
  exact = c.reduced.ensures.exact
      ∙ ap (kept (limit_of g.row.B))
      (add-cross (value_of c.args.self) (value_of c.args.other) _ _
      (seen_wide c.cross_sum.result (omega (arith, c.cross_sum.ensures.size)) ∙ c.cross_sum.ensures.value)
      c.denominators.ensures.value);
}
