use Rattle.std.proofs.Common.{◌+ℤ◌, ◌∙◌, arith, refl}
use Rattle.rob_algebra.specs.Fraction.{◌+ℚ◌}
use Rattle.rob_algebra.proofs.Parts.{add-wholes}
use Rattle.rob_number.specs.Lowest.{limit_of}
use Rattle.rob_quick.proofs.WholeLemmas.{kept_whole}
use Rattle.rob_quick.specs.Value.{quick_value}
use Rattle.rob_quick.proofs.quick.QuickExact.add.Goals as goal

pub returns-then-is_whole-2-clause-exact : goal.returns-then-is_whole-2-clause-exact
returns-then-is_whole-2-clause-exact g c =
    let x = quick_value c.args.self in
    let y = quick_value c.args.other in
    c.whole.ensures.exact
    ∙ kept_whole (limit_of g.row.B) c.sum.result (x.num +ℤ y.num) (x +ℚ y) c.sum.ensures.value
    (omega (arith, c.sum.ensures.size))
    (add-wholes x y (c.if-is_whole.ensures.whole.0 refl) (c.if-is_whole-2.ensures.whole.0 refl))
