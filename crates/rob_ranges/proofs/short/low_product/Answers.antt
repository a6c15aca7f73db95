use Rattle.std.proofs.Common.{◌∙◌, ap, arith, rules}
use Rattle.std.specs.Prelude.{ℤ, ◌*ℤ◌}
use mir.Syntax.{w64}
use mir.Val.{SFits}
use Rattle.rob_ranges.proofs.MachineNumbers.{product_fits, product_seen, product_size, read_32, read_64, widened_32}
use Rattle.rob_number.proofs.CastLemmas.{widened}
use Rattle.rob_ranges.proofs.ShortLemmas.{low_alone}
use Rattle.rob_ranges.proofs.short.low_product.Goals as goal

pub overflow_cast-result : goal.overflow_cast-result
overflow_cast-result c = widened_32 c.args.a c.ranges.a

pub overflow_cast-result-2 : goal.overflow_cast-result-2
overflow_cast-result-2 c = let low : SFits w64 c.args.b.low = search rules in widened c.args.b.low low

pub overflow_mul-result : goal.overflow_mul-result
overflow_mul-result c =
    let low : SFits w64 c.args.b.low = search rules in
    product_fits (read_32 c.args.a c.ranges.a) (read_64 c.args.b.low low) (omega arith)

pub returns-clause-value : goal.returns-clause-value
returns-clause-value c =
    let low : SFits w64 c.args.b.low = search rules in
    product_seen (read_32 c.args.a c.ranges.a) (read_64 c.args.b.low low) (omega arith)
    ∙ ap (λ (z : ℤ). c.args.a *ℤ z) (low_alone c.args.b c.requires.low)

pub returns-clause-size : goal.returns-clause-size
returns-clause-size c =
    let low : SFits w64 c.args.b.low = search rules in
    let few = product_size (read_32 c.args.a c.ranges.a) (read_64 c.args.b.low low) (omega arith) in
    omega (arith, few)
