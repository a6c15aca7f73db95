use Rattle.std.proofs.Common.{List, map, ap, ◌∙◌}
use Rattle.rob_meaning.specs.SetConditions.{set_conditions}
use Rattle.rob_model.specs.View.{robust}
use Rattle.rob_model.specs.declared.place.Place.TheVariants as At
use Rattle.rob_check.specs.Conditions.{set_tests}
use Rattle.rob_check.specs.Verdicts.{verdict}
use Rattle.rob_check.proofs.VerdictLemmas.{sign_holds}
use Rattle.rob_check.proofs.items.check_item.Goals as goal

pub returns-clause-exact : goal.returns-clause-exact
returns-clause-exact g c =
    let value = g.N.Exact.value in
    let m = robust value c.args.model.now in
    c.check_vector.ensures.exact
    ∙ ap (λ (xs : List g.row.N.Denot).
    verdict (set_tests g.N.Exact.limit m (At.Item c.args.index) (value c.args.item.now.base) (map value xs) 0
    (set_conditions m))) c.items.ensures.list
    ∙ sign_holds (At.Base c.args.index) _ _ c.if-not-is_nonnegative.ensures.test
    ∙ sign_holds (At.Weight c.args.index) _ _ c.if-not-is_positive.ensures.test
