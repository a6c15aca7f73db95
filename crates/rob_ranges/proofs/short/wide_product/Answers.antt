use Rattle.std.proofs.Common.{◌∙◌, ap, arith}
use Rattle.std.specs.Prelude.{ℤ, ◌*ℤ◌}
use Rattle.rob_ranges.proofs.MachineNumbers.{product_fits, product_seen, product_size, read_32, read_79, widened_32}
use Rattle.rob_ranges.proofs.short.wide_product.Goals as goal

pub overflow_cast-result : goal.overflow_cast-result
overflow_cast-result c = widened_32 c.args.a c.ranges.a

pub overflow_mul-result : goal.overflow_mul-result
overflow_mul-result c =
    product_fits (read_32 c.args.a c.ranges.a) (read_79 c.value-value.result c.value-value.ensures.size) (omega arith)

pub returns-clause-value : goal.returns-clause-value
returns-clause-value c =
    product_seen (read_32 c.args.a c.ranges.a) (read_79 c.value-value.result c.value-value.ensures.size) (omega arith)
    ∙ ap (λ (z : ℤ). c.args.a *ℤ z) c.value-value.ensures.value

pub returns-clause-size : goal.returns-clause-size
returns-clause-size c =
    let few =
    product_size (read_32 c.args.a c.ranges.a) (read_79 c.value-value.result c.value-value.ensures.size)
    (omega arith) in
    omega (arith, few)
