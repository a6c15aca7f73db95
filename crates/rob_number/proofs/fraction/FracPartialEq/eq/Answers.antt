use Rattle.rob_number.specs.Frac.{value_of}
use Rattle.rob_number.proofs.Comparing.{eq_then, eq_else}
use Rattle.rob_number.proofs.fraction.FracPartialEq.eq.Goals as goal

pub returns-then-numerator : goal.returns-then-numerator
returns-then-numerator g c =
    eq_then (value_of c.args.self.now) (value_of c.args.other.now) c.numerator.result c.numerator-2.result
    c.denominator.result c.denominator-then-numerator.result
    c.numerator.ensures.value c.numerator-2.ensures.value c.denominator.ensures.value
    c.denominator-then-numerator.ensures.value
    c.numerator.ensures.size c.numerator-2.ensures.size c.denominator.ensures.size
    c.denominator-then-numerator.ensures.size c.if-numerator.true

pub returns-else-numerator : goal.returns-else-numerator
returns-else-numerator g c =
    eq_else (value_of c.args.self.now) (value_of c.args.other.now) c.numerator.result c.numerator-2.result
    c.numerator.ensures.value c.numerator-2.ensures.value
    c.numerator.ensures.size c.numerator-2.ensures.size c.if-numerator.false
