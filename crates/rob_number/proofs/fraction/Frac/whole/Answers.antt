use Rattle.std.proofs.Common.{nat_abs, ◌∙◌, ap, to_z-of_z, refl}
use Rattle.rob_number.specs.Lowest.{limit_of}
use Rattle.rob_number.proofs.CastLemmas.{cast_fits}
use Rattle.rob_number.proofs.LowestLemmas.{whole_wide, whole_lowest, whole_exact}
use Rattle.rob_number.proofs.fraction.Frac.whole.Goals as goal

pub returns-then-unsigned_abs-limit : goal.returns-then-unsigned_abs-limit
returns-then-unsigned_abs-limit g c = record {
  exact = whole_wide (limit_of g.row.B) c.limit.result c.unsigned_abs.result c.args.num
      (c.unsigned_abs.ensures.value ∙ ap nat_abs (to_z-of_z c.ranges.num)) c.limit.ensures.limit
      c.if-unsigned_abs-limit.true;
}

pub overflow_cast-result : goal.overflow_cast-result
overflow_cast-result g c =
    cast_fits g.row.B c.limit.result c.unsigned_abs.result c.args.num c.ranges.num
    (c.unsigned_abs.ensures.value ∙ ap nat_abs (to_z-of_z c.ranges.num)) c.limit.ensures.limit
    c.if-unsigned_abs-limit.false

pub invariant_of-result : goal.invariant_of-result
invariant_of-result g c = record {
  lowest = whole_lowest g.row.B c.limit.result c.unsigned_abs.result c.args.num c.ranges.num
      (c.unsigned_abs.ensures.value ∙ ap nat_abs (to_z-of_z c.ranges.num)) c.limit.ensures.limit
      c.if-unsigned_abs-limit.false;
}

pub returns-else-unsigned_abs-limit : goal.returns-else-unsigned_abs-limit
returns-else-unsigned_abs-limit g c = record {
  exact = whole_exact g.row.B c.limit.result c.unsigned_abs.result c.args.num c.ranges.num
      (c.unsigned_abs.ensures.value ∙ ap nat_abs (to_z-of_z c.ranges.num)) c.limit.ensures.limit
      c.if-unsigned_abs-limit.false _ refl refl;
}
