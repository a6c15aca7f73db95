use Rattle.std.proofs.Common.{refl}
use Rattle.rob_number.specs.Lowest.{limit_of, Fits-lowest}
use Rattle.rob_number.specs.Frac.{value_of}
use Rattle.rob_number.proofs.LowestLemmas.{inverse_lowest, inverse_value}
use Rattle.rob_number.proofs.fraction.Frac.inverse.Goals as goal

pub invariant_of-result : goal.invariant_of-result
invariant_of-result g c = record {
  lowest = inverse_lowest g.row.B (value_of c.args.self) c.requires.some
      (Fits-lowest (limit_of g.row.B) c.args.self.num c.args.self.den c.args.self.lowest)
      c.numerator.result c.denominator.result c.numerator-2.result c.signed.result c.abs.result
      c.numerator.ensures.value c.numerator.ensures.size c.denominator.ensures.value c.denominator.ensures.size
      c.numerator-2.ensures.value c.numerator-2.ensures.size
      c.signed.ensures.value c.abs.ensures.value;
}

pub returns : goal.returns
returns g c = record {
  value = inverse_value g.row.B (value_of c.args.self) c.requires.some
      (Fits-lowest (limit_of g.row.B) c.args.self.num c.args.self.den c.args.self.lowest)
      c.numerator.result c.denominator.result c.numerator-2.result c.signed.result c.abs.result
      c.numerator.ensures.value c.numerator.ensures.size c.denominator.ensures.value c.denominator.ensures.size
      c.numerator-2.ensures.value c.numerator-2.ensures.size
      c.signed.ensures.value c.abs.ensures.value _ refl refl;
}
