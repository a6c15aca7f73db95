use Rattle.std.proofs.Common.{◌++◌, ◌∙◌, refl, subst, sym}
use Rattle.rob_meaning.specs.RobustModel.{RobustModel}
use Rattle.rob_report.specs.Places.{IsSpotOf}
use Rattle.rob_report.specs.Spots.{too_wide_line}
use Rattle.rob_commands.specs.Answers.{budget_line}
use Rattle.rob_commands.proofs.budgets.wide_budget.Goals as goal

pub wide_text-requires-clause-named : goal.wide_text-requires-clause-named
wide_text-requires-clause-named g c =
    subst (λ (m : RobustModel). IsSpotOf m c.args.spot) (sym c.in_ok-changed.ensures.replaced) c.requires.named

pub returns : goal.returns
returns g c = record {
  wide = (
    refl,
    c.in_ok-text.ensures.text ∙ (λ i.
        too_wide_line (c.in_ok-changed.ensures.replaced i) c.args.spot ++ budget_line (g.N.Exact.value c.args.limit)),
  );
}
