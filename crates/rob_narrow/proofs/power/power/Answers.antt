use Rattle.std.proofs.Common.{◌≡◌, ◌+◌, ◌^◌, ◌<◌, suc, arith, ap, ◌∙◌, subst}
use Rattle.rob_narrow.proofs.PowerLemmas.{power_once, power_next, power_over, product_fits}
use Rattle.rob_narrow.proofs.power.power.Goals as goal

pub returns-then-factor-limit : goal.returns-then-factor-limit
returns-then-factor-limit c =
    record {
      power = power_over c.args.limit c.args.factor 0 c.args.exponent c.requires.positive (omega arith)
          (subst (λ v. c.args.limit < v) (power_once c.args.factor) c.if-factor-limit.true);
    }

pub loop-init : goal.loop-init
loop-init c = record { power = power_once c.args.factor; below = omega arith }

pub overflow_mul-product : goal.overflow_mul-product
overflow_mul-product c =
    product_fits c.args.limit c.args.factor c.loop.product c.ranges.limit.fits (omega arith) c.loop.invariant.below

pub returns-then-product-limit : goal.returns-then-product-limit
returns-then-product-limit c =
    record {
      power = power_over c.args.limit c.args.factor (c.loop.counter + 1) c.args.exponent c.requires.positive
          (omega arith)
          (subst (λ v. c.args.limit < v) (power_next c.args.factor c.loop.counter c.loop.product c.loop.invariant.power)
          c.if-product-limit.true);
    }

pub loop-preserved : goal.loop-preserved
loop-preserved c =
    record {
      power = power_next c.args.factor c.loop.counter c.loop.product c.loop.invariant.power;
      below = omega arith;
    }

pub returns : goal.returns
returns c =
    let e : c.loop.counter ≡ c.args.exponent = omega arith in
    record { power = (c.loop.invariant.power ∙ ap (λ v. c.args.factor ^ suc v) e, omega arith) }
