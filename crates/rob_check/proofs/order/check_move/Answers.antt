use Rattle.std.proofs.Common.{ap, ◌∙◌}
use Rattle.rob_model.specs.declared.place.Place.TheVariants as At
use Rattle.rob_check.specs.Conditions.{improves}
use Rattle.rob_check.proofs.VerdictLemmas.{sign_fails, sign_holds}
use Rattle.rob_check.proofs.order.check_move.Goals as goal

pub returns-then-not-bound_improves-clause-exact : goal.returns-then-not-bound_improves-clause-exact
returns-then-not-bound_improves-clause-exact g c =
    sign_fails At.MoveBound _ _ (c.if-not-bound_improves.ensures.test
    ∙ ap (λ s. improves s (g.N.Exact.value c.args.given.cert.now.step_bound)) c.requires.given.are_forms.sense)

pub returns-clause-exact : goal.returns-clause-exact
returns-clause-exact g c =
    c.check_step.ensures.exact ∙ sign_holds At.MoveBound _ _ (c.if-not-bound_improves.ensures.test
    ∙ ap (λ s. improves s (g.N.Exact.value c.args.given.cert.now.step_bound)) c.requires.given.are_forms.sense)
