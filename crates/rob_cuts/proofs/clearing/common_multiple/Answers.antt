use Rattle.std.proofs.Common.{arith}
use Rattle.rob_algebra.specs.Gcd.{gcd_pos}
use Rattle.rob_cuts.proofs.clearing.common_multiple.Goals as goal

pub nonzero_div-a : goal.nonzero_div-a
nonzero_div-a c = omega (arith, c.gcd128-divisor.ensures.divisor, gcd_pos c.args.a c.args.b c.requires.positive)
