use Rattle.std.proofs.Common.{sym, ◌∙◌}
use Rattle.rob_algebra.specs.Gcd.{gcd-step, gcd-zero}
use Rattle.rob_number.proofs.gcd.gcd128.Goals as goal

pub loop-y-preserved : goal.loop-y-preserved
loop-y-preserved c = gcd-step c.loop-y.x c.loop-y.y ∙ c.loop-y.invariant

pub returns-then-y-eq0 : goal.returns-then-y-eq0
returns-then-y-eq0 c = record { divisor = sym (gcd-zero c.loop-y.x c.loop-y.y c.if-y-eq0.true) ∙ c.loop-y.invariant }

pub returns : goal.returns
returns c = record { divisor = c.gcd64.ensures.divisor ∙ gcd-step c.loop-y.x c.loop-y.y ∙ c.loop-y.invariant }
