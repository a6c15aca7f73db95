use Rattle.std.proofs.Common.{refl, ap₂, ◌∙◌, arith, to_z, of_z}
use Rattle.std.specs.Int.{w128}
use lib.IntN.{pos, ◌+ℤ◌, ◌*ℤ◌}
use Rattle.rob_number.proofs.CastLemmas.{seen_wide}
use Rattle.rob_dualize.proofs.EntryLemmas.{seen_same}
use Rattle.rob_cuts.proofs.KeptLemmas.{kept_test}
use Rattle.rob_cuts.proofs.kept.is_kept.Goals as goal

pub returns : goal.returns
returns g c =
    let value = g.N.Exact.value in
    let product = seen_wide c.long_product.result (omega (arith, c.long_product.ensures.size))
    ∙ c.long_product.ensures.value
    ∙ ap₂ (λ a b. a *ℤ b) (seen_same c.args.constant c.args.constant refl c.requires.small)
    (seen_same c.den.result (pos (value c.args.peak).den) c.den.ensures.denominator
    (omega (arith, c.den.ensures.within, g.met.N.Exact.limit_high))) in
    let total = c.long_sum.ensures.value
    ∙ ap₂ (λ a b. a +ℤ b) (seen_same c.num.result (value c.args.peak).num c.num.ensures.numerator
    (omega (arith, c.num.ensures.within, g.met.N.Exact.limit_high))) product in
    record {
      kept = kept_test (value c.args.peak) c.args.constant c.long_sum.result (to_z w128 (of_z w128 c.long_sum.result))
          total
          (seen_wide c.long_sum.result (omega (arith, c.long_sum.ensures.size)));
    }
