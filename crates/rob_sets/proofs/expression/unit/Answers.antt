use Rattle.std.proofs.lemmas.Result.{IfOk-weaker}
use Rattle.std.proofs.Common.{ap, ◌∙◌}
use Rattle.rob_algebra.specs.Fraction.{◌*ℚ◌}
use Rattle.rob_algebra.specs.FractionLaws.{ℚ-one-mul}
use Rattle.rob_meaning.specs.Coefficients.{single}
use Rattle.rob_sets.proofs.expression.unit.Goals as goal

pub returns-clause-number : goal.returns-clause-number
returns-clause-number g c =
    IfOk-weaker c.single.result _ _
    (λ t h k j. h k j ∙ ap (λ u. u *ℚ single c.args.cell.row c.args.cell.column k j) c.one-number.ensures.value
    ∙ ℚ-one-mul (single c.args.cell.row c.args.cell.column k j))
    c.single.ensures.number
