use Rattle.rob_model.specs.View.{set_line_of}
use Rattle.rob_gen.proofs.MadeLemmas.{budget_is, one_item}
use Rattle.rob_gen.proofs.declared.budgets.Goals as goal

pub returns-clause-made : goal.returns-clause-made
returns-clause-made g c =
    one_item g.N.Exact.value (set_line_of g.N.Exact.value) c.new-list.result _ _ c.new-list.ensures.empty
    c.in_ok-push.ensures.appended
    (budget_is g.N.Exact.value c.whole-limit.result _ _ c.whole-limit.ensures.value c.in_ok-members.ensures.made)
