use Rattle.std.proofs.Common.{nat_abs, sym, ◌∙◌, ap}
use Rattle.rob_algebra.specs.Fraction.{of_int}
use Rattle.rob_algebra.specs.Width.{kept}
use Rattle.rob_algebra.proofs.Parts.{of_int-one}
use Rattle.rob_number.specs.Lowest.{limit_of}
use Rattle.rob_number.proofs.CastLemmas.{one_bits, seen_up}
use Rattle.rob_quick.proofs.quick.QuickExact.from_parts.Goals as goal

pub returns-then-den-eq1-clause-exact : goal.returns-then-den-eq1-clause-exact
returns-then-den-eq1-clause-exact g c =
    c.whole.ensures.exact ∙ ap (λ z. kept (limit_of g.row.B) (of_int z)) (seen_up c.args.num c.ranges.num)
    ∙ ap (kept (limit_of g.row.B))
    (sym (of_int-one c.args.num (nat_abs c.args.den) (one_bits c.args.den c.ranges.den c.if-den-eq1.true)))
