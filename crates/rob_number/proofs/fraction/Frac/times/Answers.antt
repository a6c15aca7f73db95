use Rattle.std.proofs.Common.{◌∙◌, ap, arith}
use Rattle.rob_algebra.specs.Width.{kept}
use Rattle.rob_number.specs.Lowest.{limit_of}
use Rattle.rob_number.specs.Frac.{value_of}
use Rattle.rob_number.proofs.CastLemmas.{seen_wide}
use Rattle.rob_algebra.proofs.Parts.{mul-cross}
use Rattle.rob_number.proofs.fraction.Frac.times.Goals as goal

pub returns : goal.returns
returns g c = record {
  exact = c.reduced.ensures.exact
      ∙ ap (kept (limit_of g.row.B))
      (mul-cross (value_of c.args.self) (value_of c.args.other) _ _
      (seen_wide c.numerators.result (omega (arith, c.numerators.ensures.size)) ∙ c.numerators.ensures.value)
      c.denominators.ensures.value);
}
