use Rattle.std.proofs.Common.{nat_abs, sym, ◌∙◌, ap}
use Rattle.rob_algebra.specs.Fraction.{ext}
use Rattle.rob_number.specs.Frac.{value_of}
use Rattle.rob_number.proofs.CastLemmas.{seen, negated_fits, negated_seen, within_limit}
use Rattle.rob_algebra.proofs.Parts.{neg_parts}
use Rattle.rob_number.proofs.fraction.Frac.negated.Goals as goal

pub overflow_sub-result : goal.overflow_sub-result
overflow_sub-result g c =
    negated_fits c.args.self.num (within_limit g.row.B (nat_abs c.args.self.num) c.args.self.lowest.num_fits)

pub returns : goal.returns
returns g c = record {
  value = ext _ _
      (negated_seen c.args.self.num (within_limit g.row.B (nat_abs c.args.self.num) c.args.self.lowest.num_fits)
      ∙ sym (neg_parts (value_of c.args.self)).0)
      (ap nat_abs (seen c.args.self.den (within_limit g.row.B (nat_abs c.args.self.den) c.args.self.lowest.den_fits))
      ∙ sym (neg_parts (value_of c.args.self)).1);
}
